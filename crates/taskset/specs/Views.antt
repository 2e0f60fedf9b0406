-- The lists that a system lends. Assumes nothing.
use Rattle.taskset.specs.declared.system.System.{System}
use Rattle.taskset.specs.Model.{Lists}

abbrev pub lists_of : System → Lists
lists_of s = record { tasks = s.tasks.now; rules = s.rules.now }
