-- What an entrance for TCP keeps for contracts.
use Rattle.std.specs.Prelude.{List}
use Rattle.osb_frames.specs.Calls.{all_bytes, failed_or_empty_count}
use Rattle.osb_frames.specs.Counted.{calls_of}
use Rattle.osb_frames.specs.declared.counted.Counted.{Counted}
use Rattle.osb_broker.specs.Exchanges.{Exchange}
use Rattle.osb_listen.specs.declared.received.Received.{Received}
use Rattle.osb_listen.specs.declared.tcp.Said.{Said}
use Rattle.osb_listen.specs.declared.tcp.TcpEntrance.{TcpEntrance}
use Rattle.osb_listen.specs.Exchanges.{exchange_of}

-- the exchanges that were had, the first one first: what was read from a client, and what else is
-- noted
abbrev pub had_by : TcpEntrance → List (Counted Received × Said)
had_by e = e.had.items

-- each time that the database file was missed
abbrev pub misses_of : TcpEntrance → List (Unit {0} × Unit {0})
misses_of e = e.misses.items

-- such an exchange
abbrev pub exchange_with : Counted Received × Said → Exchange
exchange_with (input, said) = exchange_of said.number said.before said.stays (calls_of input)
    (all_bytes (calls_of said.output)) (failed_or_empty_count (calls_of said.output)) said.met_fault
