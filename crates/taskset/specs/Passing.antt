-- What the check of 14 looked at: a set that it passes holds its lists, and adding has taken them. Assumes nothing.
use Rattle.std.specs.Prelude.{◌≡◌, refl, Bool, true, false, ◌&&◌, List, ℕ, ◌≤◌, ◌<◌, T, leb, ltb, length, get_or, replicate, take, nat_eq}
use Rattle.std.proofs.Common.{sym, ◌∙◌, arith, eqb→eq, leb→le, length-take-le, get_or-take, ext_get_or, lt-ltb, ltb-true, ltb-false}
use Rattle.std.specs.Cmp.Lexicographic.{pointwise, same_text}
use Rattle.std.proofs.lemmas.List.{get_or_default}
use Rattle.sets.specs.Choice.{T→true, true→T, and_left, and_right}
use Rattle.sets.specs.Bounded.{all, all_at}
use Rattle.sets.specs.Pad.{pad, pad-length, pad_used, pad_unused}
use Rattle.taskset.specs.declared.Task.{Task}
use Rattle.taskset.specs.declared.Rule.{Rule}
use Rattle.taskset.specs.declared.TaskSet.{TaskSet}
use Rattle.taskset.specs.declared.Call.TheVariants.{AddTask, AddRule}
use Rattle.taskset.specs.Refusals.{max_tasks, max_rules, resources, InRanges, Between, Weighed}
use Rattle.taskset.specs.Model.{blank_task, blank_rule, no_task, Sound}
use Rattle.taskset.specs.Adding.{holding, lists, task_fits, rule_fits, entry, is_made}
use Rattle.taskset.specs.RefusalLaws.{fits_exactly}

-- a value of the code's type has arrays of these sizes
abbrev pub Sized : TaskSet → Type 0
Sized s = (length s.tasks ≡ max_tasks) × (length s.rules ≡ max_rules)

-- ---- entries

-- an entry that is all zeros
pub zero_task : (t : Task) → t.period ≡ 0 → t.execution ≡ 0 → t.deadline ≡ 0 → t.jitter ≡ 0 → t.sections ≡ replicate resources 0
    → t ≡ blank_task
zero_task t p c d j s = λ i. record { period = p i; execution = c i; deadline = d i; jitter = j i; sections = s i }

pub zero_rule : (r : Rule) → r.higher.0 ≡ 0 → r.lower.0 ≡ 0 → r.weight ≡ 0 → r ≡ blank_rule
zero_rule r u l w = λ i. record { higher = record { 0 = u i }; lower = record { 0 = l i }; weight = w i }

blank_task_lem : (n m : ℕ) (t : Task) → T (task_fits n m false t) → t ≡ blank_task
unfolding task_fits
blank_task_lem n m t h =
    let (p, c, d, j, same) :
    (t.period ≡ 0) × (t.execution ≡ 0) × (t.deadline ≡ 0) × (t.jitter ≡ 0) × T (pointwise nat_eq t.sections (replicate resources 0)) =
    search (and_left, and_right, eqb→eq) in
    zero_task t p c d j (same_text t.sections (replicate resources 0) (sym (T→true _ same)))

blank_rule_lem : (n m : ℕ) (r : Rule) → T (rule_fits n m false r) → r ≡ blank_rule
unfolding rule_fits
blank_rule_lem n m r h =
    let (u, l, w) : (r.higher.0 ≡ 0) × (r.lower.0 ≡ 0) × (r.weight ≡ 0) = search (and_left, and_right, eqb→eq) in
    zero_rule r u l w

used_task : (n m : ℕ) (t : Task) → T (task_fits n m true t) → InRanges t
unfolding task_fits
used_task n m t = (fits_exactly n m (AddTask t)).0

used_rule : (n m : ℕ) (r : Rule) → T (rule_fits n m true r) → Between n r × Weighed r
unfolding rule_fits
used_rule n m r = (fits_exactly n m (AddRule r)).0

-- an array of which n entries are used: those fit, and it is those, padded
record Used {A : Type 0} (fits : Bool → A → Bool) (limit n : ℕ) (d : A) (xs : List A) : Type 0 where
  long : length (take n xs) ≡ n
  fit : (i : ℕ) → i < length (take n xs) → T (fits true (get_or (take n xs) i d))
  padded : pad limit d (take n xs) ≡ xs

used : {A : Type 0} (fits : Bool → A → Bool) (limit n : ℕ) (d : A) (xs : List A) → ((x : A) → T (fits false x) → x ≡ d)
    → length xs ≡ limit → n ≤ limit → ((i : ℕ) → i < limit → T (entry fits d n xs i)) → Used fits limit n d xs
used fits limit n d xs blank size few fit =
    record { long = long; fit = fits_used; padded = ext_get_or d (pad limit d (take n xs)) xs same_length at }
  where
    long : length (take n xs) ≡ n
    long = length-take-le n xs (omega arith)

    fits_used : (i : ℕ) → i < length (take n xs) → T (fits true (get_or (take n xs) i d))
    fits_used i h =
        let under : i < n = omega (arith, long) in
        rw (get_or-take n xs i d under) (rw (lt-ltb i n under) at (fit i (omega arith)))

    same_length : length (pad limit d (take n xs)) ≡ length xs
    same_length = pad-length limit d (take n xs) (omega (arith, long)) ∙ sym size

    go : (i : ℕ) → i < limit → (b : Bool) → ltb i n ≡ b → T (fits b (get_or xs i d))
        → get_or (pad limit d (take n xs)) i d ≡ get_or xs i d
    go i h true e t =
        let under = ltb-true i n e in
        pad_used limit d (take n xs) i (omega (arith, long)) ∙ get_or-take n xs i d under
    go i h false e t =
        let over = ltb-false i n e in
        pad_unused limit d (take n xs) i (omega (arith, long)) h ∙ sym (blank (get_or xs i d) t)

    at : (i : ℕ) → i < length (pad limit d (take n xs)) → get_or (pad limit d (take n xs)) i d ≡ get_or xs i d
    at i h = let l : i < limit = omega (arith, same_length) in go i l (ltb i n) refl (fit i l)

-- ---- the set

-- what a set that passes is: it holds its lists, which adding has taken, and has as many entries as its counts say
pub record Passed (s : TaskSet) : Type 0 where
  pub holds : holding (lists s) ≡ s
  pub sound : Sound (lists s)
  pub ntasks : length (lists s).tasks ≡ s.ntasks
  pub nrules : length (lists s).rules ≡ s.nrules

pub passed : (s : TaskSet) → Sized s → is_made s ≡ true → Passed s
unfolding is_made
passed s size e =
    let n = s.ntasks in
    let m = s.nrules in
    let tasks = entry (task_fits n m) blank_task n s.tasks in
    let rules = entry (rule_fits n m) blank_rule m s.rules in
    let t = true→T (leb n max_tasks && leb m max_rules && all max_tasks tasks && all max_rules rules) e in
    let (few-tasks, few_rules, tasks-fit, rules-fit) :
    (n ≤ max_tasks) × (m ≤ max_rules) × T (all max_tasks tasks) × T (all max_rules rules) =
    search (and_left, and_right, leb→le) in
    let ts =
    used (task_fits n m) max_tasks n blank_task s.tasks (blank_task_lem n m) size.0 few-tasks (all_at max_tasks tasks tasks-fit) in
    let rs =
    used (rule_fits n m) max_rules m blank_rule s.rules (blank_rule_lem n m) size.1 few_rules (all_at max_rules rules rules-fit) in
    record {
      holds = λ i. record { tasks = ts.padded i; ntasks = ts.long i; rules = rs.padded i; nrules = rs.long i };
      sound =
          record {
            tasks = record { few = omega (arith, ts.long, few-tasks); each = λ i h. rw (get_or_default (take n s.tasks) i no_task blank_task h) (used_task n m _ (ts.fit i h)) };
            few_rules = omega (arith, rs.long, few_rules);
            indices = λ k h. rw ts.long (used_rule n m _ (rs.fit k h)).0;
            weights = λ k h. (used_rule n m _ (rs.fit k h)).1;
          };
      ntasks = ts.long;
      nrules = rs.long;
    }

-- so few enough tasks and rules
pub passed_few : (s : TaskSet) → Passed s → (s.ntasks ≤ max_tasks) × (s.nrules ≤ max_rules)
passed_few s p = (omega (arith, p.ntasks, p.sound.tasks.few), omega (arith, p.nrules, p.sound.few_rules))
