-- Laws of reading a text line by line into a task set, one for each way a turn ends. Assumes nothing.
use Rattle.std.specs.Prelude.{◌≡◌, refl, Some, None, Result, Ok, Err, MatchResult, true, List, [], ◌∷◌, ℕ, suc, ◌+◌, ◌≤◌, ◌<◌, length, drop}
use Rattle.std.specs.Result.{IsErrAnd}
use Rattle.std.proofs.Common.{sym, ap, ◌∙◌, add-one, arith, drop_of_length-le, lt-ltb, le-ltb}
use Rattle.lines.specs.declared.reader.Reader.{Reader}
use Rattle.lines.specs.Decimal.{feed}
use Rattle.lines.specs.Parts.{parts, up_to}
use Rattle.lines.specs.PartsLaws.{parts-some, part_last, part_step}
use Rattle.taskset.specs.declared.refusals.Refusal.{Refusal}
use Rattle.taskset.specs.declared.refusals.Refusal.TheVariants.{BadLine, LongText}
use Rattle.taskset.specs.declared.TaskSet.{TaskSet}
use Rattle.taskset.specs.declared.Call.{Call}
use Rattle.taskset.specs.Model.{Lists, no_lists, refusal_of, extended, Sound}
use Rattle.taskset.specs.Adding.{holding, lists, fresh_set, is_made, add}
use Rattle.taskset.specs.Holding.{none_sound, taken_sound, sound_made, lists-holding, add-holding}
use Rattle.text.specs.declared.RefusedAt.{RefusedAt}
use Rattle.text.specs.Text.{line_in, max_text, Read, refused_at, finished, by_refusal, by_line, read_from, reading}

-- equal readings have equal answers
pub answer_of : {r s : Read} → r ≡ s → r.answer ≡ s.answer
answer_of e = ap (λ (r : Read). r.answer) e

pub text_long : (text : List ℕ) → max_text < length text → refused_at 0 LongText ≡ reading text
unfolding reading
text_long text h = rw (lt-ltb max_text (length text) h)

-- the line at a reader's position
abbrev pub here : Reader → List ℕ
here r = up_to feed (drop r.at r.text.now)

-- read up to a reader's position: the set holds the lists so far, and the rest, read into them, gives what the whole text gives
pub record ReadTo (text : List ℕ) (r : Reader) (line : ℕ) (set : TaskSet) : Type 0 where
  pub over : r.text.now ≡ text
  pub so_far : Lists
  pub holds : set ≡ holding so_far
  pub sound : Sound so_far
  pub short : length text ≤ max_text
  pub within : r.at ≤ length text
  pub counted : line ≤ r.at + 1
  pub same : read_from so_far line (parts feed (drop r.at text)) ≡ reading text

pub text_starts : (text : List ℕ) {r : Reader} {set : TaskSet} → r.text.now ≡ text → r.at ≡ 0 → set ≡ fresh_set → length text ≤ max_text
    → ReadTo text r 1 set
unfolding reading
text_starts text o z e h =
    record {
      over = o;
      so_far = no_lists;
      holds = e;
      sound = none_sound;
      short = h;
      within = omega arith;
      counted = omega arith;
      same = rw (z, le-ltb max_text (length text) h);
    }

pub line_then : (l : Lists) (line : ℕ) (bytes : List ℕ) (more : List (List ℕ)) → 0 < length more
    → read_from l line (bytes ∷ more) ≡ by_line l line (line_in bytes) (λ k. read_from k (suc line) more)
unfolding read_from
line_then l line bytes [] h = absurd (omega arith)
line_then l line bytes (m ∷ ms) h = refl

line_last : (l : Lists) (line : ℕ) (bytes : List ℕ) → 0 < length bytes → read_from l line (bytes ∷ []) ≡ refused_at line BadLine
unfolding read_from
line_last l line [] h = absurd (omega arith)
line_last l line (b ∷ bs) h = refl

module _ {text : List ℕ} {r : Reader} {line : ℕ} {set : TaskSet} (t : ReadTo text r line set) where
  -- calls make the set
  pub so_far_made : is_made set ≡ true
  so_far_made = ap is_made t.holds ∙ sound_made t.so_far t.sound

  -- at the end it holds what the text gives
  pub text_ends : length text ≤ r.at → finished t.so_far ≡ reading text
  unfolding read_from parts
  text_ends h = rw (drop_of_length-le text h) at t.same

  pub text_held : length text ≤ r.at → set ≡ holding (reading text).lists
  text_held h = t.holds ∙ rw (← text_ends h)

  -- the line at the position
  at_here : here r ≡ up_to feed (drop r.at text)
  at_here = rw t.over

  -- no line feed ends it
  pub line_unended : r.at < length text → length r.text.now ≤ r.at + length (here r) → refused_at line BadLine ≡ reading text
  line_unended some h =
      let last = part_last feed text r.at (here r) at_here (omega (arith, ap length t.over)) in
      sym (line_last t.so_far line (here r) (omega (arith, h, ap length t.over))) ∙ rw last at t.same

  module _ (more : r.at + length (here r) < length r.text.now) where
    ended_within : r.at + length (here r) < length text
    ended_within = omega (arith, more, ap length t.over)

    abbrev rest : List (List ℕ)
    rest = parts feed (drop (r.at + length (here r) + 1) text)

    one : by_line t.so_far line (line_in (here r)) (λ k. read_from k (suc line) rest) ≡ reading text
    one =
        sym (line_then t.so_far line (here r) rest (parts-some feed (drop (r.at + length (here r) + 1) text)))
        ∙ rw (part_step feed text r.at (here r) at_here ended_within) at t.same

    module _ {bytes : List ℕ} (found : bytes ≡ here r) where
      -- it can't be read
      pub line_unread : None ≡ line_in bytes → refused_at line BadLine ≡ reading text
      line_unread e = let none : line_in (here r) ≡ None = sym (e ∙ ap line_in found) in rw none at one

      -- its call is refused, or taken
      module _ {c : Call} (asks : Some c ≡ line_in bytes) where
        -- as the set's lists have it
        answers : refusal_of (lists set) c ≡ refusal_of t.so_far c
        answers =
            ap (λ (s : TaskSet). refusal_of (lists s) c) t.holds ∙ ap (λ (k : Lists). refusal_of k c) (lists-holding t.so_far)

        by : {a : Result (Unit {0}) Refusal} → a ≡ refusal_of (lists set) c
            → by_refusal line a (read_from (extended t.so_far c) (suc line) rest) ≡ reading text
        by e = let some : line_in (here r) ≡ Some c = sym (asks ∙ ap line_in found) in rw (e, answers) (rw some at one)

        pub line_refused : {k : Refusal} → Err k ≡ refusal_of (lists set) c → refused_at line k ≡ reading text
        line_refused = by

        -- so also where the refusal is handed on with its line
        pub line_mapped : (a : Result (Unit {0}) Refusal) → a ≡ refusal_of (lists set) c → {m : Result (Unit {0}) RefusedAt} {k : RefusedAt}
            → m ≡ Err k → {Q : Refusal → RefusedAt → Type 0} → MatchResult a (λ x. m ≡ Ok x) (λ e. IsErrAnd m (Q e))
            → ((e : Refusal) (y : RefusedAt) → Q e y → y ≡ record { line = line; refusal = e }) → Err k ≡ (reading text).answer
        line_mapped (Ok u) e f says with-line = absurd (cc)
        line_mapped (Err x) e {m} {k} f {Q} says with-line =
            let h : Q x k = rw f at says in
            ap (λ (y : RefusedAt). Err y) (with-line x k h) ∙ answer_of (line_refused e)

        pub line_taken : Ok tt ≡ refusal_of (lists set) c → {next : TaskSet} → next ≡ (add set c).set
            → {q : Reader} → q.text ≡ r.text → q.at ≡ r.at + length (here r) + 1 → ReadTo text q (line + 1) next
        line_taken e {next} f {q} same on =
            let ok : refusal_of t.so_far c ≡ Ok tt = sym (e ∙ answers) in
            record {
              over = rw same t.over;
              so_far = extended t.so_far c;
              holds = f ∙ ap (λ (s : TaskSet). (add s c).set) t.holds ∙ rw (add-holding t.so_far t.sound c, ok);
              sound = taken_sound t.so_far t.sound c ok;
              short = t.short;
              within = omega (arith, ended_within);
              counted = omega (arith, t.counted);
              same = rw (on, add-one line) (by e);
            }

-- what a long text gives, the first turn, and each further one
pub ruleset text_laws = (text_long, text_starts, line_taken)
