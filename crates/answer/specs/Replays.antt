-- What a text gets is what replaying its lines as calls gives, so demand 3 and the requests cover it. Assumes nothing.
use Rattle.std.specs.Prelude.{Option, Some, None, Result, Ok, Err, IfOk, ◌≡◌, refl, List, [], ◌∷◌, ℕ, ◌≤◌, length}
use Rattle.std.proofs.Common.{arith, le-leb}
use Rattle.taskset.specs.declared.Call.{Call}
use Rattle.taskset.specs.declared.Call.TheVariants.{AddTask, AddRule}
use Rattle.taskset.specs.Model.{Lists, no_lists, Sound}
use Rattle.taskset.specs.Numbers.{task_numbers, rule_numbers}
use Rattle.taskset.specs.RefusalLaws.{number_small}
use Rattle.taskset.proofs.NumberingLaws.{number_some}
use Rattle.taskset.specs.Holding.{none_sound, heard_sound}
use Rattle.taskset.specs.Outcome.{Outcome, shown_as, buffer_after}
use Rattle.lines.specs.Decimal.{feed}
use Rattle.lines.specs.Parts.{parts}
use Rattle.text.specs.declared.RefusedAt.{RefusedAt}
use Rattle.text.specs.Text.{line_in, reading, asking, asked_in, calls_asked}
use Rattle.text.specs.Accepted.{Short, task_line_exactly, rule_line_exactly}
use Rattle.text.specs.Asking.{reading_runs}
use Rattle.verdict.specs.Verdict.{deciding}
use Rattle.replay.specs.Calls.{call_numbers, Whole, Words, Asked, AllFromNumbers}
use Rattle.replay.specs.Replaying.{every_list}
use Rattle.replay.specs.Theorem.{replay_decides}
use Rattle.listing.specs.Listing.{listing, fitted, max_listing}
use Rattle.listing.proofs.GivesLaws.{RefusedOrListed, refusal, verdict, fitted_either, decided_shown, decided_either, either_gives}
use Rattle.listing.proofs.Short.{deciding_short}
use Rattle.answer.specs.Answer.{outcome_by, answer_to, line_of, answered}
use Rattle.answer.specs.Host.{heard_in, TextGives}

-- ---- the lines' calls are ones that `replay` can be handed

-- numbers of at most 7 digits are words
short_words : (ns : List ℕ) → Short ns → Words ns
short_words [] s = tt
short_words (n ∷ ns) s = (omega (arith, s.0), short_words ns s.1)

call_words : (bytes : List ℕ) (c : Call) → line_in bytes ≡ Some c → Words (call_numbers c) × Whole c
call_words bytes (AddTask t) e = let h = (task_line_exactly bytes t).0 e in (short_words (task_numbers t) h.1, h.2)
call_words bytes (AddRule r) e = let h = (rule_line_exactly bytes r).0 e in (short_words (rule_numbers r) h.1, tt)

asked_words : (ps : List (List ℕ)) → Asked (asked_in ps)
unfolding asked_in
asked_words [] = tt
asked_words (bytes ∷ rest) = go (line_in bytes) refl (asked_words rest)
  where
    go : (l : Option Call) → line_in bytes ≡ l → Asked (asked_in rest) → Asked (asking l (asked_in rest))
    go None e h = h
    go (Some c) e h = let w = call_words bytes c e in (w.0, w.1, h)

pub text_words : (text : List ℕ) → (calls : List Call) × Asked calls × AllFromNumbers calls × (calls ≡ calls_asked text)
text_words text = every_list (calls_asked text) (asked_words (parts feed text))

-- ---- a text is refused, or its verdict is shown

module _ (text : List ℕ) where
  abbrev l : Lists
  l = heard_in text

  sound : Sound l
  sound = heard_sound no_lists none_sound (calls_asked text)

  pub answer_either : RefusedOrListed l (answer_to text)
  answer_either = go (reading text).answer refl
    where
      go : (r : Result (Unit {0}) RefusedAt) → (reading text).answer ≡ r → RefusedOrListed l (outcome_by (reading text).lists r)
      go (Ok u) e = rw (reading_runs text e) (decided_either l sound)
      go (Err r) e = refusal r.refusal (number_some r.refusal) (omega (arith, number_small r.refusal))

  -- in a buffer it stays so
  pub answer-fitted : (room : ℕ) → RefusedOrListed l (fitted room (answer_to text))
  answer-fitted room = fitted_either l room (answer_to text) answer_either

  -- the listing is short, so a buffer of that size always has room for it
  pub answer_short : 1 ≤ length l.tasks → length (listing l (deciding l)) ≤ max_listing
  answer_short some = deciding_short l sound _ (decided_shown l sound some)

  pub answer_fits : (room : ℕ) → max_listing ≤ room → fitted room (answer_to text) ≡ answer_to text
  answer_fits room h = go (answer_to text) answer_either
    where
      go : (o : Outcome) → RefusedOrListed l o → fitted room o ≡ o
      go o (refusal k some few) = refl
      go o (verdict some) = rw (le-leb (length (listing l (deciding l))) room (omega (arith, answer_short some)))

  -- ---- so what is listed gives what it should

  count_of : (line : ℕ) (o : Outcome) (P : ℕ → Type 0) → IfOk (shown_as o) P → IfOk (answered line o) P
  count_of line (Err k) P h = tt
  count_of line (Ok bytes) P h = h

  pub text_gives : (was : List ℕ) → let o = fitted (length was) (answer_to text) in
      IfOk (answered (line_of text) o) (λ count. TextGives text count was (buffer_after o was))
  text_gives was =
      let o = fitted (length was) (answer_to text) in
      count_of (line_of text) o _
      (rw (replay_decides (calls_asked text)) (either_gives l sound o (answer-fitted (length was)) was _ _ refl refl))
