-- What a read says of the input. Assumes nothing.
use Rattle.std.specs.Prelude.{ℕ, zero, suc, Result, Ok, Err}

-- so many bytes more; or how the reading ended: without an error where there are none, else with the read's
abbrev pub told : {E : Type 0} → Result ℕ E → Result ℕ (Result (Unit {0}) E)
told (Ok zero) = Err (Ok tt)
told (Ok (suc n)) = Ok (suc n)
told (Err error) = Err (Err error)
