-- Laws of the text of lists that adding takes: it is short, and reading it gives the lists back. Assumes nothing.
use mathlib.Core.List.{List, [], ◌∷◌, ◌++◌, map, flat_map, append_assoc, append-nil}
use Rattle.std.specs.Prelude.{◌≡◌, refl, Some, ◌≢◌, ℕ, suc, ◌+◌, ◌*◌, ◌^◌, ◌≤◌, ◌<◌, length, get_or}
use Rattle.std.proofs.Common.{◌∙◌, arith, length-append, suc-le-suc, zero-lt-suc, le-ltb}
use Rattle.std.proofs.Math.ListN.{length-map}
use Rattle.std.proofs.Math.Seq.{append_snoc}
use Rattle.std.proofs.lemmas.List.{get_or-map}
use Rattle.sets.specs.Marks.{table}
use Rattle.lines.specs.Decimal.{tab, feed, max_digits}
use Rattle.lines.specs.Parts.{parts, join}
use Rattle.lines.specs.PartsLaws.{parts-some, join_clear, parts_after}
use Rattle.lines.specs.Line.{line, lines_of}
use Rattle.lines.specs.LineLengths.{Digits, line_short, lines_short}
use Rattle.taskset.specs.declared.Task.{Task}
use Rattle.taskset.specs.declared.Rule.{Rule}
use Rattle.taskset.specs.declared.TaskSet.{TaskSet}
use Rattle.taskset.specs.declared.Call.{Call}
use Rattle.taskset.specs.declared.Call.TheVariants.{AddTask, AddRule}
use Rattle.taskset.specs.Refusals.{max_tasks, max_rules, resources, section_on, InRanges, Between, Weighed, Acceptable, Room}
use Rattle.taskset.specs.Model.{Lists, no_lists, extended, blank_rule, no_task, task_at, rule_at, Sound, Sectioned}
use Rattle.taskset.specs.Adding.{lists, Made}
use Rattle.taskset.specs.RefusalLaws.{taken_exactly}
use Rattle.taskset.specs.Exact.{made_sound}
use Rattle.taskset.specs.Numbers.{task_numbers, rule_numbers}
use Rattle.text.specs.Text.{max_text, letter_t, letter_r, lettered, line_in, Read, finished, read_from, reading}
use Rattle.text.specs.Lines.{line_then}
use Rattle.text.specs.Accepted.{Short, lettered_clear, task_line_exactly, rule_line_exactly}
use Rattle.text.specs.Written.{task_head, rule_head, text_of}

-- ---- short lines

each_short : (ns : List ℕ) → ((k : ℕ) → k < length ns → get_or ns k 0 < 10 ^ max_digits) → Short ns
each_short [] small = tt
each_short (n ∷ ns) small = (small 0 (zero-lt-suc (length ns)), each_short ns (λ k h. small (suc k) (suc-le-suc h)))

task_numbers_short : (t : Task) → InRanges t → length t.sections ≡ resources → Short (task_numbers t)
unfolding section_on
task_numbers_short t ok whole =
    let sections = each_short t.sections (λ k h. omega (arith, ok.sections k (omega arith))) in
    (omega arith, (omega arith, (omega arith, (omega arith, sections))))

rule_numbers_short : (n : ℕ) (r : Rule) → n < 10 ^ max_digits → Between n r → Weighed r → Short (rule_numbers r)
rule_numbers_short n r few places weighed = (omega arith, (omega arith, (omega arith, tt)))

-- at most 7 digits for each of n numbers
abbrev sevens : ℕ → List ℕ
sevens n = table n (λ k. max_digits)

short_digits : (ns : List ℕ) → Short ns → Digits (sevens (length ns)) ns
short_digits [] s = tt
short_digits (n ∷ ns) s = (omega arith, s.0, short_digits ns s.1)

-- a line for each entry of a list
entries_short : {A : Type 0} (b : ℕ) (head : List ℕ) (f : A → List ℕ) (d : A) (xs : List A)
    → ((i : ℕ) → i < length xs → length (line head (f (get_or xs i d))) ≤ b) → length (lines_of head (map f xs)) ≤ b * length xs
entries_short b head f d xs each =
    let long = length-map xs f in
    rw long at (lines_short b head (map f xs) (λ i h. let k = rw long at h in rw (get_or-map f xs i d [] k) (each i k)))

-- a line of a task has at most 98 bytes and one of a rule 26, so the text is far below the limit
pub text_of_short : (l : Lists) → Sound l → Sectioned l.tasks → length (text_of l) ≤ 9_600
unfolding text_of
text_of_short l s sectioned =
    let tasks =
    entries_short 98 task_head task_numbers no_task l.tasks (λ i h.
    let ns = task_numbers (task_at l.tasks i) in
    let short = task_numbers_short (task_at l.tasks i) (s.tasks.each i h) (sectioned i h) in
    rw (sectioned i h) at (line_short task_head (sevens (length ns)) ns (omega arith) (short_digits ns short))) in
    let rules =
    entries_short 26 rule_head rule_numbers blank_rule l.rules (λ k h.
    let ns = rule_numbers (rule_at l.rules k) in
    let short = rule_numbers_short (length l.tasks) (rule_at l.rules k) (omega (arith, s.tasks.few)) (s.indices k h) (s.weights k h) in
    line_short rule_head (sevens (length ns)) ns (omega arith) (short_digits ns short)) in
    omega (
      arith,
      s.tasks.few,
      s.few_rules,
      length-append (lines_of task_head (map task_numbers l.tasks)) (lines_of rule_head (map rule_numbers l.rules)),
    )

-- so is that of every set that calls make, and joining hands back no other
pub made_text_short : (s : TaskSet) → Made s → Sectioned (lists s).tasks → length (text_of (lists s)) ≤ 9_600
made_text_short s made = text_of_short (lists s) (made_sound s made)

-- ---- read back

-- a line whose call is taken: what follows is read into the lists that the call extends
line_taken : (l : Lists) (n letter : ℕ) (ns rest : List ℕ) (c : Call) → letter ≢ feed → 1 ≤ length ns
    → line_in (join tab (lettered letter ns)) ≡ Some c → Acceptable (length l.tasks) c → Room (length l.tasks) (length l.rules) c
    → read_from l n (parts feed (line (letter ∷ tab ∷ []) ns ++ rest)) ≡ read_from (extended l c) (suc n) (parts feed rest)
unfolding line
line_taken l n letter [] rest c other some asks ok room = absurd (omega arith)
line_taken l n letter (k ∷ ks) rest c other some asks ok room =
    let bytes = join tab (lettered letter (k ∷ ks)) in
    let clear = join_clear tab feed refl (lettered letter (k ∷ ks)) (lettered_clear feed (omega arith) letter other (k ∷ ks)) in
    let more = parts feed rest in
    let taken = (taken_exactly (length l.tasks) (length l.rules) c).1 (ok, room) in
    rw (append_assoc bytes (feed ∷ []) rest, parts_after feed bytes rest clear)
    (line_then l n bytes more (parts-some feed rest) ∙ rw (asks, taken))

-- the lines of tasks, and what follows at any line number
tasks_read : (ts : List Task) (l : Lists) (n : ℕ) (rest : List ℕ) (r : Read) → length l.tasks + length ts ≤ max_tasks
    → ((i : ℕ) → i < length ts → InRanges (task_at ts i)) → Sectioned ts
    → ((m : ℕ) → read_from (record { tasks = l.tasks ++ ts; rules = l.rules }) m (parts feed rest) ≡ r)
    → read_from l n (parts feed (lines_of task_head (map task_numbers ts) ++ rest)) ≡ r
unfolding lines_of flat_map
tasks_read [] l n rest r h each sectioned later = rw append-nil at (later n)
tasks_read (t ∷ ts) l n rest r h each sectioned later =
    let ok = each 0 (zero-lt-suc (length ts)) in
    let whole = sectioned 0 (zero-lt-suc (length ts)) in
    let ns = task_numbers t in
    let asks = (task_line_exactly (join tab (lettered letter_t ns)) t).1 (refl, task_numbers_short t ok whole, whole) in
    let more = flat_map (line task_head) (map task_numbers ts) in
    let longer = length-append l.tasks (t ∷ []) in
    rw (append_assoc (line task_head ns) more rest)
    (line_taken l n letter_t ns (more ++ rest) (AddTask t) (omega arith) (omega arith) asks ok (omega arith)
    ∙ tasks_read ts (extended l (AddTask t)) (suc n) rest r (omega arith) (λ i k. each (suc i) (suc-le-suc k)) (λ i k. sectioned (suc i) (suc-le-suc k))
    (λ m. rw (append_snoc l.tasks t ts) (later m)))

-- and those of rules, which end the text
rules_read : (rs : List Rule) (l : Lists) (n : ℕ) → length l.tasks ≤ max_tasks → length l.rules + length rs ≤ max_rules
    → ((k : ℕ) → k < length rs → Between (length l.tasks) (rule_at rs k) × Weighed (rule_at rs k))
    → read_from l n (parts feed (lines_of rule_head (map rule_numbers rs))) ≡ finished (record { tasks = l.tasks; rules = l.rules ++ rs })
unfolding lines_of flat_map parts read_from
rules_read [] l n few h each = rw (append-nil l.rules)
rules_read (r ∷ rs) l n few h each =
    let ok = each 0 (zero-lt-suc (length rs)) in
    let ns = rule_numbers r in
    let asks = (rule_line_exactly (join tab (lettered letter_r ns)) r).1 (refl, rule_numbers_short (length l.tasks) r (omega arith) ok.0 ok.1) in
    let longer = length-append l.rules (r ∷ []) in
    line_taken l n letter_r ns (lines_of rule_head (map rule_numbers rs)) (AddRule r) (omega arith) (omega arith) asks ok (omega arith)
    ∙ rules_read rs (extended l (AddRule r)) (suc n) few (omega arith) (λ k j. each (suc k) (suc-le-suc j))
    ∙ rw (append_snoc l.rules r rs)

-- reading the text gives the lists back
pub text_of_read : (l : Lists) → Sound l → Sectioned l.tasks → reading (text_of l) ≡ finished l
unfolding reading text_of
text_of_read l s sectioned =
    let rules = λ (m : ℕ).
    rules_read l.rules (record { tasks = l.tasks; rules = [] }) m s.tasks.few (omega (arith, s.few_rules)) (λ k h. (s.indices k h, s.weights k h)) in
    rw (le-ltb max_text (length (text_of l)) (omega (arith, text_of_short l s sectioned)))
    (tasks_read l.tasks no_lists 1 (lines_of rule_head (map rule_numbers l.rules)) (finished l) (omega (arith, s.tasks.few)) s.tasks.each sectioned rules)
