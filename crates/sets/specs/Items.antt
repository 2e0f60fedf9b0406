-- The elements of a list, tested and compared one by one, in std's words. Assumes nothing.
use Rattle.std.specs.Prelude.{◌≡◌, refl, Bool, List, ℕ, zero, suc, ◌≤◌, max, length, get_or, take, fold}
use Rattle.std.specs.List.{list_all}
use Rattle.std.proofs.Common.{sym, ap, ◌∙◌, add-one, arith}
use Rattle.std.proofs.Math.Bool.{and_comm}
use Rattle.std.proofs.Math.Seq.{take-length}
use Rattle.std.proofs.lemmas.List.Folds.{list_all_more}
use Rattle.std.proofs.lemmas.List.Sums.{fold_more}
use Rattle.sets.specs.Bounded.{every, all}
use Rattle.sets.specs.Maximum.{maximum}

-- all of the first i pass
pub all-taken : {A : Type 0} (p : A → Bool) (d : A) (xs : List A) (i : ℕ) → i ≤ length xs
    → all i (λ k. p (get_or xs k d)) ≡ list_all p (take i xs)
unfolding all
all-taken p d xs zero h = refl
all-taken p d xs (suc i) h =
    rw (all-taken p d xs i (omega arith), and_comm (p (get_or xs i d)) (list_all p (take i xs)))
    (sym (rw add-one at (list_all_more p xs i d h)))

-- the greatest of the first i, and of the whole list
pub maximum-taken : (xs : List ℕ) (i : ℕ) → i ≤ length xs → maximum i every (λ k. get_or xs k 0) ≡ fold max 0 (take i xs)
unfolding maximum
maximum-taken xs zero h = refl
maximum-taken xs (suc i) h = rw (maximum-taken xs i (omega arith)) (sym (rw add-one at (fold_more max 0 xs i 0 h)))

pub maximum-items : (xs : List ℕ) → maximum (length xs) every (λ k. get_or xs k 0) ≡ fold max 0 xs
maximum-items xs = maximum-taken xs (length xs) (omega arith) ∙ ap (fold max 0) (take-length xs)
