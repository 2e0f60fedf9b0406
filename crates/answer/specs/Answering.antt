-- Laws of answering a text: one for each way out. Assumes nothing.
use Rattle.std.specs.Prelude.{Result, Ok, Err, IfOk, ◌≡◌, refl, ℕ, ◌+◌, ◌^◌, ◌≤◌, ◌<◌, length}
use Rattle.std.proofs.Common.{sym, ap, subst, arith, length-append}
use mathlib.Core.List.{List, [], ◌∷◌, ◌++◌, flat_map}
use Rattle.sets.specs.Onto.{onto}
use Rattle.lines.specs.Decimal.{tab}
use Rattle.lines.specs.LineWriting.{few_digits, field_long, tabbed, line_long}
use Rattle.taskset.specs.declared.refusals.Refusal.{Refusal}
use Rattle.taskset.specs.Numbering.{number}
use Rattle.taskset.specs.RefusalLaws.{number_small}
use Rattle.taskset.specs.Model.{Lists}
use Rattle.taskset.specs.Outcome.{Outcome, shown_as, buffer_after}
use Rattle.text.specs.declared.RefusedAt.{RefusedAt}
use Rattle.text.specs.Text.{at_no_line, reading}
use Rattle.verdict.specs.declared.Verdict.{Verdict}
use Rattle.verdict.specs.Verdict.{deciding}
use Rattle.listing.specs.Listing.{listing, outcome, fitted, max_listing}
use Rattle.listing.proofs.GivesLaws.{RefusedOrListed, refusal, verdict}
use Rattle.answer.specs.Answer.{answer_to, line_of, answered, host_number, bad, bad_line, printed, report, max_bad}
use Rattle.answer.specs.Host.{heard_in, TextGives, HostGets}
use Rattle.answer.specs.Replays.{answer-fitted, answer_short, answer_fits, text_gives}

-- a `bad` line is short
pub bad_short : (line k : ℕ) → line < 2 ^ 64 → k < 2 ^ 64 → length (bad_line line k) ≤ max_bad
unfolding flat_map
bad_short line k h g =
    omega (
      arith,
      line_long bad (line ∷ k ∷ []) (omega arith),
      length-append (tabbed line) (tabbed k ++ []),
      length-append (tabbed k) [],
      field_long line tab,
      field_long k tab,
      few_digits line refl h,
      few_digits k refl g,
    )

-- ---- answered

module _ (text buffer : List ℕ) where
  -- the outcome in this buffer
  abbrev pub fit : Outcome
  fit = fitted (length buffer) (answer_to text)

  -- what answering says, and the buffer afterwards
  abbrev pub said : Result ℕ RefusedAt
  said = answered (line_of text) fit

  abbrev pub left : List ℕ
  left = buffer_after fit buffer

  -- the text is read, and the verdict on its lists is shown
  module _ (good : (reading text).answer ≡ Ok tt) where
    pub read_shown : {l : Lists} → l ≡ (reading text).lists → {v : Verdict} → v ≡ deciding l → outcome l v ≡ answer_to text
    read_shown is e = rw (e, is, good) refl

    pub listed_said : {count : ℕ} → Ok count ≡ shown_as fit → Ok count ≡ said
    listed_said {count} e = go fit e
      where
        go : (o : Outcome) → Ok count ≡ shown_as o → Ok count ≡ answered (line_of text) o
        go (Ok bytes) e = cc
        go (Err k) e = cc

    pub refused_said : {k : Refusal} → Err k ≡ shown_as fit → Err (at_no_line k) ≡ said
    refused_said {k} e = go fit e
      where
        go : (o : Outcome) → Err k ≡ shown_as o → Err (at_no_line k) ≡ answered (line_of text) o
        go (Ok bytes) e = cc
        go (Err j) e = let same : k ≡ j = cc in rw (good, same) refl

  pub listed_gives : {count : ℕ} {xs : List ℕ} → Ok count ≡ said → xs ≡ left → TextGives text count buffer xs
  listed_gives e f =
      rw f (subst (λ (r : Result ℕ RefusedAt). IfOk r (λ n. TextGives text n buffer left)) (sym e) (text_gives text buffer))

  -- ---- printed, with room for every listing

  module _ (room : max_listing ≤ length buffer) where
    is_printed : report text ≡ printed (line_of text) fit
    unfolding report
    is_printed = ap (printed (line_of text)) (sym (answer_fits text (length buffer) room))

    -- a listing stands in the buffer
    pub report_listed : {count : ℕ} → Ok count ≡ said → (count ≡ length (report text)) × (left ≡ onto (report text) buffer)
    report_listed {count} e = rw is_printed (go fit e)
      where
        go : (o : Outcome) → Ok count ≡ answered (line_of text) o
            → (count ≡ length (printed (line_of text) o)) × (buffer_after o buffer ≡ onto (printed (line_of text) o) buffer)
        go (Ok bytes) e = (cc, refl)
        go (Err k) e = cc

    -- of a refusal nothing does yet, and its line goes there
    pub report_refused : {r : RefusedAt} → Err r ≡ said → (bad_line r.line (number r.refusal) ≡ report text) × (left ≡ buffer)
    report_refused {r} e = rw is_printed (go fit e)
      where
        go : (o : Outcome) → Err r ≡ answered (line_of text) o
            → (bad_line r.line (number r.refusal) ≡ printed (line_of text) o) × (buffer_after o buffer ≡ buffer)
        go (Ok bytes) e = cc
        go (Err k) e = let same : r ≡ record { line = line_of text; refusal = k } = cc in rw same (refl, refl)

  -- ---- for a host

  pub host_listed : {count : ℕ} → Ok count ≡ said → 100 + count ≡ host_number fit
  host_listed {count} e = go fit e
    where
      go : (o : Outcome) → Ok count ≡ answered (line_of text) o → 100 + count ≡ host_number o
      go (Ok bytes) e = let same : count ≡ length bytes = cc in ap (λ (n : ℕ). 100 + n) same
      go (Err k) e = cc

  pub host_refused : {r : RefusedAt} → Err r ≡ said → number r.refusal ≡ host_number fit
  host_refused {r} e = go fit e
    where
      go : (o : Outcome) → Err r ≡ answered (line_of text) o → number r.refusal ≡ host_number o
      go (Ok bytes) e = cc
      go (Err k) e = let same : r ≡ record { line = line_of text; refusal = k } = cc in ap (λ (x : RefusedAt). number x.refusal) same

  -- so is a count short
  pub listed_short : {count : ℕ} → Ok count ≡ said → count ≤ max_listing
  listed_short {count} e = go fit (answer-fitted text (length buffer)) e
    where
      go : (o : Outcome) → RefusedOrListed (heard_in text) o → Ok count ≡ answered (line_of text) o → count ≤ max_listing
      go o (refusal k least few) e = cc
      go o (verdict some) e =
          let same : count ≡ length (listing (heard_in text) (deciding (heard_in text))) = cc in rw same (answer_short text some)

  -- 100 and a count are no refusal's number
  pub listed_hosts : {r count : ℕ} {xs : List ℕ} → Ok count ≡ said → xs ≡ left → r ≡ 100 + count → HostGets text r buffer xs
  unfolding HostGets
  listed_hosts {r} {count} {xs} e f is n g =
      let same : count ≡ n = omega arith in subst (λ (m : ℕ). TextGives text m buffer xs) same (listed_gives e f)

  pub refused_hosts : {r : ℕ} (k : Refusal) (xs : List ℕ) → r ≡ number k → HostGets text r buffer xs
  unfolding HostGets
  refused_hosts k xs is n g = absurd (omega (arith, number_small k))
