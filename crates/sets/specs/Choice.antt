-- A choice by a test, and tests as facts: `T b` says that the test b passes. Assumes nothing.
use Rattle.std.specs.Prelude.{Option, None, Some}
use Rattle.std.specs.Prelude.{◌≡◌, refl, Bool, true, false, not, ◌&&◌, ◌||◌, ◌⊎◌, ℕ, ◌≤◌, ◌<◌, T, ltb}
use Rattle.std.proofs.Common.{true≢false, inl, inr, arith, ltb-true, ltb-false}
use Rattle.std.proofs.lemmas.Bool.{false≢true}
use mir.Val.{bool_byte}

abbrev pub pick {ℓ} : {A : Type ℓ} → Bool → A → A → A
pick true a b = a
pick false a b = b

-- a test as a number
pub bool_byte-pick : (b : Bool) → bool_byte b ≡ pick b 1 0
bool_byte-pick true = refl
bool_byte-pick false = refl

pub bool_byte-le : (b : Bool) → bool_byte b ≤ 1
bool_byte-le true = omega arith
bool_byte-le false = omega arith

-- what bounds both bounds the choice
pub pick-le : (b : Bool) {x y n : ℕ} → x ≤ n → y ≤ n → pick b x y ≤ n
pick-le true h k = h
pick-le false h k = k

-- a choice by a test has what each side has
pub pick_has : {A : Type 0} (P : A → Type 0) (b : Bool) {x y : A} → (T b → P x) → ((T b → ⊥) → P y) → P (pick b x y)
pick_has P true passes fails = passes tt
pick_has P false passes fails = fails (λ t. t)

-- a choice by whether there is a value
abbrev pub option : {A B : Type 0} → B → (A → B) → Option A → B
option b f None = b
option b f (Some a) = f a

-- ---- a test as an equation

pub T→true : (b : Bool) → T b → b ≡ true
T→true true t = refl
T→true false t = absurd t

pub true→T : (b : Bool) → b ≡ true → T b
true→T true e = tt
true→T false e = absurd (false≢true e)

pub refuted→false : (b : Bool) → (T b → ⊥) → b ≡ false
refuted→false true h = absurd (h tt)
refuted→false false h = refl

pub false→refuted : (b : Bool) → b ≡ false → T b → ⊥
false→refuted true e t = true≢false e
false→refuted false e t = t

pub not→refuted : (b : Bool) → T (not b) → T b → ⊥
not→refuted true t s = t
not→refuted false t s = s

pub refuted→not : (b : Bool) → (T b → ⊥) → T (not b)
refuted→not true h = h tt
refuted→not false h = tt

pub decided : (b : Bool) → T b ⊎ (T b → ⊥)
decided true = inl tt
decided false = inr (λ t. t)

pub lt_or_le : (a b : ℕ) → (a < b) ⊎ (b ≤ a)
lt_or_le a b = go (ltb a b) refl
  where
    go : (c : Bool) → ltb a b ≡ c → (a < b) ⊎ (b ≤ a)
    go true e = inl (ltb-true a b e)
    go false e = inr (ltb-false a b e)

-- two tests that pass together are equal
pub same_test : (a b : Bool) → (T a → T b) → (T b → T a) → a ≡ b
same_test true true f g = refl
same_test true false f g = absurd (f tt)
same_test false true f g = absurd (g tt)
same_test false false f g = refl

-- ---- both tests, and one of two

pub and_intro : (a b : Bool) → T a → T b → T (a && b)
and_intro true b s t = t
and_intro false b s t = s

pub and_left : (a b : Bool) → T (a && b) → T a
and_left true b t = tt
and_left false b t = t

pub and_right : (a b : Bool) → T (a && b) → T b
and_right true b t = t
and_right false b t = absurd t

pub and-true : (a : Bool) → a ≡ (a && true)
and-true true = refl
and-true false = refl

pub and-false : (a : Bool) → (a && false) ≡ false
and-false true = refl
and-false false = refl

pub and_swap : (a b c : Bool) → (a && (b && c)) ≡ (b && (a && c))
and_swap true b c = refl
and_swap false true c = refl
and_swap false false c = refl

pub or_left : (a b : Bool) → T a → T (a || b)
or_left true b t = tt
or_left false b t = absurd t

pub or_right : (a b : Bool) → T b → T (a || b)
or_right true b t = tt
or_right false b t = t

pub or_elim : (a b : Bool) → T (a || b) → T a ⊎ T b
or_elim true b t = inl tt
or_elim false b t = inr t

pub or_false_left : (a b : Bool) → (a || b) ≡ false → a ≡ false
or_false_left true b e = e
or_false_left false b e = refl

pub or_false_right : (a b : Bool) → (a || b) ≡ false → b ≡ false
or_false_right true b e = absurd (true≢false e)
or_false_right false b e = e
