-- What a host gets, by what answering says of a text.
use Rattle.std.proofs.Common.{sym, refl, ◌∙◌, arith}
use Rattle.answer.specs.Answering.{host_listed, host_refused, listed_short, listed_hosts, refused_hosts}
use Rattle.orders_c.proofs.orders_solve.Goals as goal

pub overflow_add-result : goal.overflow_add-result
overflow_add-result c =
    omega (arith, listed_short c.args.text.now c.args.out.now (sym c.in-Ok.is ∙ c.answer.ensures.value))

pub returns-in-Ok-clause-value : goal.returns-in-Ok-clause-value
returns-in-Ok-clause-value c = host_listed c.args.text.now c.args.out.now (sym c.in-Ok.is ∙ c.answer.ensures.value)

pub returns-in-Ok-clause-replays : goal.returns-in-Ok-clause-replays
returns-in-Ok-clause-replays c =
    listed_hosts c.args.text.now c.args.out.now (sym c.in-Ok.is ∙ c.answer.ensures.value) c.answer.ensures.bytes refl

pub returns-in-Err-clause-value : goal.returns-in-Err-clause-value
returns-in-Err-clause-value c =
    c.from.ensures ∙ host_refused c.args.text.now c.args.out.now (sym c.in-Err.is ∙ c.answer.ensures.value)

pub returns-in-Err-clause-replays : goal.returns-in-Err-clause-replays
returns-in-Err-clause-replays c = refused_hosts c.args.text.now c.args.out.now c.in-Err.refused.refusal _ c.from.ensures
