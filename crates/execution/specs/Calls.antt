-- The protocol that is run, by what the calls of its members answer.
use Rattle.sets.specs.Largest.{largest}
use Rattle.run.specs.Protocol.{Protocol, fcwfa, by_calls}

abbrev pub calls : Protocol
calls = by_calls largest fcwfa
