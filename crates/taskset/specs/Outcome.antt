-- What a call gives that writes to the front of a lent buffer: entries, or a refusal. Assumes nothing.
use Rattle.std.specs.Prelude.{Result, Ok, Err, List, ℕ, length}
use Rattle.sets.specs.Onto.{onto}
use Rattle.taskset.specs.declared.refusals.Refusal.{Refusal}

abbrev pub Outcome : Type 0
Outcome = Result (List ℕ) Refusal

-- what it answers: how many entries there are, or the refusal
abbrev pub shown_as : Outcome → Result ℕ Refusal
shown_as (Err k) = Err k
shown_as (Ok entries) = Ok (length entries)

-- the buffer afterwards: as it was on a refusal; else the entries, and then what stood after their places
abbrev pub buffer_after : Outcome → List ℕ → List ℕ
buffer_after (Err k) buffer = buffer
buffer_after (Ok entries) buffer = onto entries buffer
