-- The code by which proofs distinguish screens.
use Rattle.std.specs.Prelude.{refl}
use Rattle.std.specs.Coded.{Coded, code_by, coded×}
use Rattle.tx_session.specs.Sessions.{whole_session_code}
use Rattle.tx_session.specs.Worlds.{WholeSession}
use Rattle.tx_screen.specs.contracts.desk.Desk as one_desk
use Rattle.tx_screen.specs.Screens.{DeskSeen, ScreenSeen}

abbrev pub screen_code : Coded ScreenSeen
screen_code =
    code_by (WholeSession × DeskSeen) (coded× whole_session_code one_desk.the_row.coded) (λ s. (s.session, s.desk))
    (λ p. record { session = p.0; desk = p.1 }) (λ _. refl)
