-- Each step of the desk is its event, where the rule holds.
use Rattle.std.proofs.Common.{◌+◌, get_or, arith}
use Rattle.std.proofs.lemmas.Bool.Decides.{nat_tests}
use Rattle.ticket_core.specs.ArrayLock.{flag_of}
use Rattle.ticket_core.proofs.lemmas.ArrayRuns.{array_lawful_one_inside}
use Rattle.registry_desk.specs.Rule.{shown_lock}
use Rattle.registry_desk.specs.Events.{ShowsLawfulLock, DrawIsEvent, EnterIsEvent, WaitIsEvent, ShutIsEvent, PassIsEvent}
use Rattle.registry_desk.proofs.Lock.{draw_event, enter_event, wait_event, shut_event, pass_event}
use Rattle.registry_desk.proofs.Steps.{small_tickets}

pub shows_lawful_lock : ShowsLawfulLock
shows_lawful_lock s r = (r.lock, array_lawful_one_inside (shown_lock s.words s.views) r.lock)

pub draw_is_event : DrawIsEvent
draw_is_event s id v h away = let r = h.0 in let at = h.1 in let below = small_tickets s r in let wide = r.words in draw_event s.words s.views id v at (omega arith) (omega arith) away

pub enter_is_event : EnterIsEvent
enter_is_event s id t v history h waits found = enter_event s.words s.views id v h.1 t history waits (grind (arith, nat_tests))

pub wait_is_event : WaitIsEvent
wait_is_event s id t v h waits found = wait_event s.words s.views id v h.1 t (get_or s.words (flag_of t + 1) 0) waits (grind (arith, nat_tests))

pub shut_is_event : ShutIsEvent
shut_is_event s id t v full history h inside = shut_event s.words s.views id v h.1 t full history inside

pub pass_is_event : PassIsEvent
pass_is_event s id t v h leaving = pass_event s.words s.views id v h.1 t leaving
