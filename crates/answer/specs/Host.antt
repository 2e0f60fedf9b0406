-- What a caller gets for a text, in the terms of the calls that its lines ask. Assumes nothing.
use Rattle.std.specs.Prelude.{◌≡◌, List, ℕ, ◌+◌}
use Rattle.taskset.specs.Model.{Lists, no_lists, heard}
use Rattle.taskset.specs.Adding.{fresh_set, run}
use Rattle.text.specs.Text.{calls_asked}
use Rattle.verdict.specs.declared.Verdict.{Verdict}
use Rattle.verdict.specs.Verdict.{solving}
use Rattle.listing.specs.Gives.{Gives}

-- the lists that the reference model hears from a text's lines, and the verdict on the calls that they ask
abbrev pub heard_in : List ℕ → Lists
heard_in text = heard no_lists (calls_asked text)

abbrev pub verdict_for : List ℕ → Verdict
verdict_for text = (solving (run fresh_set (calls_asked text))).verdict

-- so many bytes of a listing of that verdict on those lists, in a buffer that was so and is so now
abbrev pub TextGives : List ℕ → ℕ → List ℕ → List ℕ → Type 0
TextGives text count was is = Gives (heard_in text) (verdict_for text) count was is

-- what a host gets whose call gives r: 100 and a count say that there are so many
unfoldable pub HostGets : List ℕ → ℕ → List ℕ → List ℕ → Type 0
HostGets text r was is = (count : ℕ) → r ≡ 100 + count → TextGives text count was is
