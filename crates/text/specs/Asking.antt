-- Laws of what a text gives: lists that adding has taken, those that the reference model hears from the calls that the
-- lines ask. Assumes nothing.
use Rattle.std.specs.Prelude.{◌≡◌, refl, Option, Some, None, Result, Ok, Err, IfErr, Bool, true, false, List, [], ◌∷◌, ℕ, suc, ◌<◌, ltb, length, is_err}
use Rattle.std.proofs.Common.{sym, ap, ◌∙◌, arith}
use Rattle.std.proofs.lemmas.Bool.{false≢true}
use Rattle.sets.specs.Choice.{pick}
use Rattle.lines.specs.Decimal.{feed}
use Rattle.lines.specs.Parts.{parts}
use Rattle.taskset.specs.declared.refusals.Refusal.{Refusal}
use Rattle.taskset.specs.declared.refusals.Refusal.TheVariants.{BadLine, LongText}
use Rattle.taskset.specs.declared.Call.{Call}
use Rattle.taskset.specs.Numbering.{number}
use Rattle.taskset.specs.Model.{Lists, no_lists, refusal_of, extended, hear, heard, Sound}
use Rattle.taskset.specs.Adding.{holding, fresh_set, run}
use Rattle.taskset.specs.RefusalLaws.{number_small}
use Rattle.taskset.specs.Holding.{none_sound, taken_sound, run-holding}
use Rattle.text.specs.declared.RefusedAt.{RefusedAt}
use Rattle.text.specs.LineLaws.{line_short}
use Rattle.text.specs.Text.{line_in, max_text, Read, refused_at, finished, by_refusal, by_line, read_from, reading, handed}
use Rattle.text.specs.Text.{asking, asked_in, calls_asked}

-- what reading into these lists gives, where the lines ask these calls
record ReadInto (l : Lists) (calls : List Call) (r : Read) : Type 0 where
  sound : Sound l → Sound r.lists
  hears : r.answer ≡ Ok tt → r.lists ≡ heard l calls
  none : is_err r.answer ≡ true → r.lists ≡ no_lists

refused_into : (l : Lists) (calls : List Call) (line : ℕ) (k : Refusal) → ReadInto l calls (refused_at line k)
refused_into l calls line k = record { sound = λ s. none_sound; hears = λ e. absurd (cc); none = λ e. refl }

finished_into : (l : Lists) → ReadInto l [] (finished l)
unfolding heard
finished_into l = record { sound = λ s. s; hears = λ e. refl; none = λ e. absurd (false≢true e) }

line_into : (l : Lists) (line : ℕ) (rest : Lists → Read) (calls : List Call) → ((k : Lists) → ReadInto k calls (rest k))
    → (read : Option Call) → ReadInto l (asking read calls) (by_line l line read rest)
unfolding heard hear
line_into l line rest calls into None = refused_into l calls line BadLine
line_into l line rest calls into (Some c) = go (refusal_of l c) refl
  where
    go : (r : Result (Unit {0}) Refusal) → refusal_of l c ≡ r → ReadInto l (c ∷ calls) (by_refusal line r (rest (extended l c)))
    go (Ok u) e =
        let r = into (extended l c) in
        record { sound = λ s. r.sound (taken_sound l s c e); hears = rw e r.hears; none = r.none }
    go (Err k) e = refused_into l (c ∷ calls) line k

lines_into : (ps : List (List ℕ)) (l : Lists) (line : ℕ) → ReadInto l (asked_in ps) (read_from l line ps)
unfolding read_from asked_in
lines_into [] l line = finished_into l
lines_into ([] ∷ []) l line = rw (← line_short [] (omega arith)) (finished_into l)
lines_into ((b ∷ bs) ∷ []) l line = refused_into l _ line BadLine
lines_into (bytes ∷ more ∷ rest) l line =
    line_into l line (λ k. read_from k (suc line) (more ∷ rest)) (asked_in (more ∷ rest)) (λ k. lines_into (more ∷ rest) k (suc line)) (line_in bytes)

text_into : (text : List ℕ) → ReadInto no_lists (calls_asked text) (reading text)
unfolding reading
text_into text = go (ltb max_text (length text))
  where
    go : (b : Bool) → ReadInto no_lists (calls_asked text) (pick b (refused_at 0 LongText) (read_from no_lists 1 (parts feed text)))
    go true = refused_into no_lists (calls_asked text) 0 LongText
    go false = lines_into (parts feed text) no_lists 1

-- ---- so of every text

-- a refusal has a number below 100
pub reading_small : (text : List ℕ) → IfErr (reading text).answer (λ r. number r.refusal < 100)
reading_small text = go (reading text).answer
  where
    go : (r : Result (Unit {0}) RefusedAt) → IfErr r (λ k. number k.refusal < 100)
    go (Ok u) = tt
    go (Err k) = omega (arith, number_small k.refusal)

pub reading_sound : (text : List ℕ) → Sound (reading text).lists
reading_sound text = (text_into text).sound none_sound

-- a refused text gives no lists
pub reading_none : (text : List ℕ) → is_err (reading text).answer ≡ true → (reading text).lists ≡ no_lists
reading_none text = (text_into text).none

-- what is read without a refusal is heard from the calls
pub reading_runs : (text : List ℕ) → (reading text).answer ≡ Ok tt → (reading text).lists ≡ heard no_lists (calls_asked text)
reading_runs text = (text_into text).hears

-- and the set that is handed over is the one that the calls make
pub reading_makes : (text : List ℕ) → (reading text).answer ≡ Ok tt → (handed (reading text)).set ≡ run fresh_set (calls_asked text)
reading_makes text e = ap holding (reading_runs text e) ∙ sym (run-holding no_lists none_sound (calls_asked text))
