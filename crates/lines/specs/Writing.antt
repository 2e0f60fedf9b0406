-- Laws of writing a number into the front of a buffer, from the byte after it to its first digit. Assumes nothing.
use Rattle.std.specs.Prelude.{◌≡◌, refl, List, [], ◌∷◌, ◌++◌, ℕ, suc, ◌+◌, ◌-◌, ◌/◌, ◌%◌, ◌≤◌, ◌<◌, length, drop, set}
use Rattle.std.proofs.Common.{sym, ap, ◌∙◌, add-one, arith, length-append, length-set}
use Rattle.std.proofs.Math.Seq.{append_snoc}
use Rattle.sets.specs.Onto.{onto, drop_store}
use Rattle.lines.specs.Decimal.{decimal}
use Rattle.lines.specs.DecimalLaws.{decimal_one, decimal-more, decimal_longer}
use Rattle.lines.specs.ReadBack.{decimal-some}

-- a byte stored right after the front belongs to it
pub onto_store : (xs out : List ℕ) (i b : ℕ) → i ≡ length xs → i < length out
    → onto xs (set out i b) ≡ onto (xs ++ b ∷ []) out
onto_store xs out i b e h =
    let n = length xs in
    rw (e, drop_store out n b (omega arith), length-append xs (b ∷ []), add-one n)
    (sym (append_snoc xs b (drop (suc n) out)))

-- the last digit of several
pub write_turn : (out : List ℕ) (rest i : ℕ) → 10 ≤ rest → i ≡ length (decimal rest) → i ≤ length out
    → onto (decimal (rest / 10)) (set out (i - 1) (48 + rest % 10)) ≡ onto (decimal rest) out
write_turn out rest i h e room =
    let long = decimal_longer rest h in
    rw (decimal-more rest h)
    (onto_store (decimal (rest / 10)) out (i - 1) (48 + rest % 10) (omega (arith, e, long)) (omega (arith, e, long)))

-- the only one
pub write_end : (out : List ℕ) (rest : ℕ) → rest < 10 → 0 < length out → set out 0 (48 + rest) ≡ onto (decimal rest) out
write_end out rest h room = rw (decimal_one rest h) (onto_store [] out 0 (48 + rest) refl room)

-- how many digits there are
pub one_digit : (n : ℕ) → n < 10 → length (decimal n) ≡ 1
one_digit n few = ap length (decimal_one n few)

pub ruleset digit_counts = (one_digit, decimal_longer, decimal-some)

-- some of a number's digits are written behind, and those of the rest go before them
pub record DigitsLeft (n : ℕ) (buffer : List ℕ) (rest place : ℕ) (out : List ℕ) : Type 0 where
  pub left : length (decimal rest) ≡ place
  pub whole : onto (decimal rest) out ≡ onto (decimal n) buffer
  pub room : place ≤ length out

module _ {n rest place : ℕ} {buffer out : List ℕ} (d : DigitsLeft n buffer rest place out) where
  -- the last of several
  pub write_digit : 1 < place → DigitsLeft n buffer (rest / 10) (place - 1) (set out (place - 1) (48 + rest % 10))
  write_digit several =
      let many : 10 ≤ rest = grind (arith, one_digit) in
      let long = decimal_longer rest many in
      record {
        left = omega (arith, d.left);
        whole = write_turn out rest place many (sym d.left) d.room ∙ d.whole;
        room = omega (arith, length-set out (place - 1) (48 + rest % 10), d.room);
      }

  -- the only one
  pub write_last : place ≤ 1 → set out 0 (48 + rest) ≡ onto (decimal n) buffer
  write_last one =
      let few : rest < 10 = grind (arith, decimal_longer, decimal-some) in
      write_end out rest few (omega (arith, decimal-some rest, d.left, d.room)) ∙ d.whole
