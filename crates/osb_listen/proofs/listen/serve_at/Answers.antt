use Rattle.std.proofs.Common.{rules, refl, ◌≡◌, [], IfErr}
use Rattle.osb_broker.specs.BrokerState.{lives_of}
use Rattle.osb_broker.specs.Room.{limits_of}
use Rattle.osb_listen.specs.declared.fault.ListenFault.TheVariants.{Memory, CannotListen, CannotWrite}
use Rattle.osb_listen.proofs.ExchangeLemmas.{none_serves_by, none_yet, many_served, standard}
use Rattle.osb_listen.proofs.listen.serve_at.Goals as goal

pub returns-clause-served : goal.returns-clause-served
returns-clause-served g c =
    let served = c.serve_listener.ensures.served in
    (limits_of c.in_ok-buffer.buffer, c.in_ok-buffer.ensures, served.0, many_served c.serve_listener.result _ _ served.0 served.1 served.2 c.serve_listener.ensures.fault, rw c.listen.ensures.journal at served.3)

pub returns-in_err-buffer-clause-served : goal.returns-in_err-buffer-clause-served
unfolding lives_of
returns-in_err-buffer-clause-served g c =
    let result = c.from_residual.result in
    let is : IfErr result (λ fault. fault ≡ Memory) = search rules in
    (standard.0, standard.1, [], none_yet result Memory _ _ refl c.from_residual.ensures.0 is, none_serves_by _ _ _ _ _ _ _ _ refl c.lives_are_whole.ensures.whole c.lives_are_whole.ensures.kept)

pub returns-in_err-listen-clause-served : goal.returns-in_err-listen-clause-served
unfolding lives_of
returns-in_err-listen-clause-served g c =
    let result = c.from_residual-in_err-listen.result in
    let is : IfErr result (λ fault. fault ≡ CannotListen) = search rules in (
      standard.0,
      standard.1,
      [],
      none_yet result CannotListen _ _ refl c.from_residual-in_err-listen.ensures.0 is,
      none_serves_by _ _ _ _ _ _ _ _ c.listen.ensures.journal c.lives_are_whole.ensures.whole c.lives_are_whole.ensures.kept,
    )

pub returns-in_err-write_listening_line-clause-served : goal.returns-in_err-write_listening_line-clause-served
unfolding lives_of
returns-in_err-write_listening_line-clause-served g c =
    let result = c.from_residual-in_err-write_listening_line.result in
    let is : IfErr result (λ fault. fault ≡ CannotWrite) = search rules in (
      standard.0,
      standard.1,
      [],
      none_yet result CannotWrite _ _ refl c.from_residual-in_err-write_listening_line.ensures.0 is,
      none_serves_by _ _ _ _ _ _ _ _ c.listen.ensures.journal c.lives_are_whole.ensures.whole c.lives_are_whole.ensures.kept,
    )
