-- The store through lines that a session executes.
use Rattle.std.proofs.Common.{◌≡◌, ℕ, List, [], ◌∷◌, Option, Some, None, sym, ap, subst}
use Rattle.std.specs.List.{flat_map}
use Rattle.tx_outside.specs.Outside.{StoreGoesOn, StoreSeen}
use Rattle.tx_outside.proofs.GoingOn.{store_goes_on_refl, store_goes_on_then}
use Rattle.tx_cmd.specs.declared.command.Command.{Command}
use Rattle.tx_session.specs.Replies.{IsReply, IsReplyTo, IsRefusalReply, Reading}
use Rattle.tx_session.specs.Replies.{nothing, too_long, unread, command, faulty}
use Rattle.tx_session.specs.States.{saved_by}
use Rattle.tx_session.specs.Worlds.{World, SeenWorld, LineMark, plain, lacking, unsaved, told, StoresFile}
use Rattle.tx_session.specs.Worlds.{seen_of_world}
use Rattle.tx_screen.specs.Screens.{AreExecuted, IsTold, unless_quit}

-- a store is the same, or goes on
same_goes_on : (before after : StoreSeen) → after ≡ before → StoreGoesOn before after
same_goes_on before after e = subst (λ s. StoreGoesOn before s) (sym e) (store_goes_on_refl before)

stored_goes_on : (file : Option (List ℕ × List ℕ)) (before after : StoreSeen) → StoresFile file before after
    → StoreGoesOn before after
stored_goes_on None before after e = same_goes_on before after e
stored_goes_on (Some file) before after h = h.1

replied_goes_on : (before : SeenWorld) (it : Command) (mark : LineMark) (after : SeenWorld) (reply : List ℕ)
    → IsReply before it mark after reply → StoreGoesOn before.store after.store
replied_goes_on before it plain after reply h =
    stored_goes_on (saved_by before.session.state it) before.store after.store h.stored
replied_goes_on before it lacking after reply h = h.2.1
replied_goes_on before it unsaved after reply h = h.4.2
replied_goes_on before it (told n) after reply h = same_goes_on before.store after.store h.stored

refused_goes_on : (before : World) (text : List ℕ) (mark : LineMark) (after : World) (reply : List ℕ)
    → IsRefusalReply before text mark after reply → StoreGoesOn before.store after.store
refused_goes_on before text plain after reply h = same_goes_on before.store after.store h.0.store
refused_goes_on before text lacking after reply h = same_goes_on before.store after.store h.0.store
refused_goes_on before text unsaved after reply h = absurd h
refused_goes_on before text (told n) after reply h = absurd h

read_goes_on : (before : World) (reading : Reading) (mark : LineMark) (after : World) (reply : List ℕ)
    → IsReplyTo before reading mark after reply → StoreGoesOn before.store after.store
read_goes_on before nothing mark after reply h = same_goes_on before.store after.store (ap (λ (w : World). w.store) h.1)
read_goes_on before (too_long count) mark after reply h = refused_goes_on before _ mark after reply h.0
read_goes_on before unread mark after reply h = same_goes_on before.store after.store h.1.store
read_goes_on before (command it) mark after reply h =
    replied_goes_on (seen_of_world before) it mark (seen_of_world after) reply h.1.replied
read_goes_on before (faulty cause) mark after reply h = refused_goes_on before _ mark after reply h

pub executed_goes_on : (before : World) (lines : List (List ℕ)) (after : World) → AreExecuted before lines after
    → StoreGoesOn before.store after.store
executed_goes_on before [] after e = same_goes_on before.store after.store (ap (λ (w : World). w.store) e)
executed_goes_on before (line ∷ lines) after h =
    let next = h.0 in
    let reply = h.3 in
    store_goes_on_then before.store next.store after.store
    (read_goes_on before reply.0 h.1 next h.2 reply.2) (executed_goes_on next lines after h.4)

-- a store goes on through what a session is told
pub told_goes_on : (before : World) (lines : List (List ℕ)) (after : World) → IsTold before lines after
    → StoreGoesOn before.store after.store
told_goes_on before lines after h = executed_goes_on before (flat_map unless_quit lines) after h
