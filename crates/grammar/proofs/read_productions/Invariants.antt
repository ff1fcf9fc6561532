use Rattle.grammar.specs.Reading.{Reading}
use Rattle.std.proofs.Common.{◌-◌, ◌≤◌}
use Rattle.grammar.specs.Limits.{max_terminals, max_nonterminals, max_productions}
use Rattle.grammar.proofs.read_productions.Given as goal

abbrev pub invariant-loop-rest : goal.invariant-loop-rest
invariant-loop-rest l =
    record {
      few : l.head.count ≤ max_productions;
      terminals : l.head.t ≤ max_terminals;
      nonterminals : l.head.n ≤ max_nonterminals;
      reading : Reading l.image l.head.t l.head.n l.head.start l.rest l.rows l.head.count l.offset;
    }

abbrev pub decreases-loop-rest : goal.decreases-loop-rest
decreases-loop-rest l = max_productions - l.head.count
