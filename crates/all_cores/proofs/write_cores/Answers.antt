-- A set that is a core is written behind those before it. Assumes nothing.
use Rattle.std.proofs.Common.{◌∙◌, ap, sym, arith, length, List, ℕ}
use Rattle.sets.specs.Choice.{true→T}
use Rattle.sets.specs.Collected.{itself, collected_zero, collected_in, collected_out}
use Rattle.sets.specs.Marks.{marked}
use Rattle.sets.specs.Onto.{onto, front_none, front_as, front_store}
use Rattle.taskset.specs.Views.{lists_of}
use Rattle.assignment.specs.Audsley.{problem}
use Rattle.assignment.proofs.Preemptive.{lawful}
use Rattle.subsets.specs.Subsets.{core_number}
use Rattle.subsets.proofs.SubsetsLaws.{set-lt, set_seen, all_seen}
use Rattle.subsets.proofs.NumberedCores.{core_same}
use Rattle.all_cores.proofs.EveryCoreLaws.{room-left, cores_whole}
use Rattle.all_cores.proofs.write_cores.Goals as goal
use Rattle.all_cores.proofs.write_cores.Goals.{then-is_core, else-is_core}

pub loop-set-init : goal.loop-set-init
loop-set-init c = front_as (sym (collected_zero (core_number (problem (lists_of c.args.system))) itself)) front_none

pub is_core-requires : goal.is_core-requires
is_core-requires c = set-lt _ c.requires.few c.loop-set.set c.loop-set-test.true

-- the table tells the cores
pub bounds-out-count : goal.bounds-out-count
bounds-out-count c =
    let at = c.loop-set in
    let l = lists_of c.args.system in
    let inside = set_seen _ c.requires.few at.set c.loop-set-test.true in
    let known = core_same (problem l) (marked c.feasible_subsets-feasible.result) _ at.set c.feasible_subsets-feasible.ensures inside in
    let is = true→T _ (sym known ∙ sym c.is_core.ensures ∙ c.if-is_core.true) in
    omega (
      arith,
      room-left (problem l) (lawful l c.args.system.sound) c.requires.few at.set inside is,
      at.invariant.count,
      at.auto.out,
      c.requires.room,
    )

pub loop-set-preserved : goal.loop-set-preserved
loop-set-preserved c =
    let at = c.loop-set in
    let l = lists_of c.args.system in
    let is = core_number (problem l) in
    let inside = set_seen _ c.requires.few at.set c.loop-set-test.true in
    let known = core_same (problem l) (marked c.feasible_subsets-feasible.result) _ at.set c.feasible_subsets-feasible.ensures inside in
    elim c.if-is_core.branch [
      | then-is_core w ↦
          let core = sym known ∙ sym c.is_core.ensures ∙ w.if-is_core.true in
          let left = room-left (problem l) (lawful l c.args.system.sound) c.requires.few at.set inside (true→T _ core) in
          rw (w.out-is, w.count-is)
          (front_as (sym (collected_in is itself at.set core)) (front_store at.invariant (omega (arith, left, at.invariant.count, c.requires.room)) at.set))
      | else-is_core w ↦
          rw (w.out-is, w.count-is)
          (front_as (sym (collected_out is itself at.set (sym known ∙ sym c.is_core.ensures ∙ w.if-is_core.false))) at.invariant)
    ]

pub returns-clause-value : goal.returns-clause-value
returns-clause-value c =
    let all = all_seen _ c.requires.few c.loop-set.set c.loop-set.auto.set-end c.loop-set-test.false in
    c.loop-set.invariant.count ∙ ap length (cores_whole (problem (lists_of c.args.system)) c.loop-set.set all)

pub returns-clause-buffer : goal.returns-clause-buffer
returns-clause-buffer c =
    let all = all_seen _ c.requires.few c.loop-set.set c.loop-set.auto.set-end c.loop-set-test.false in
    c.loop-set.invariant.list ∙ ap (λ (numbers : List ℕ). onto numbers c.args.out.now) (cores_whole (problem (lists_of c.args.system)) c.loop-set.set all)
