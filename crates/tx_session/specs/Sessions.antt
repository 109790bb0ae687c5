-- What is known of a session.
use Rattle.std.specs.Prelude.{◌≡◌, ℕ, Bool, true, false, List, [], refl}
use Rattle.std.specs.Coded.{Coded, code_by, coded×, coded_ℕ, coded_bool}
use Rattle.tx_doc.specs.Buffers.{with_tree}
use Rattle.tx_doc.specs.declared.buffer.Buffer.{Buffer}
use Rattle.tx_state.specs.States.{State}
use Rattle.tx_state.specs.contracts.state.EditorState as one_state
use Rattle.tx_state.specs.declared.edits.Prepared.{Prepared}
use Rattle.tx_view.specs.Names.{Carry}
use Rattle.tx_view.specs.Stores.{ViewStores, coded_Stores}
use Rattle.tx_view.specs.WholeViews.{WholeView}
use Rattle.tx_session.specs.declared.session.Session.TheInside.{Inside}
use Rattle.tx_session.specs.Worlds.{SeenSession, Keep, WholeSession}

abbrev seen_code : Coded SeenSession
seen_code =
    code_by (State × (ℕ × (ℕ × Bool))) (coded× one_state.the_row.coded (coded× coded_ℕ (coded× coded_ℕ coded_bool)))
    (λ s. (s.state, (s.width, (s.height, s.fresh))))
    (λ p. record { state = p.0; width = p.1.0; height = p.1.1.0; fresh = p.1.1.1 }) (λ _. refl)

abbrev keep_code : Coded Keep
keep_code =
    code_by (Bool × (ViewStores × ℕ)) (coded× coded_bool (coded× coded_Stores coded_ℕ))
    (λ k. (k.fresh, (k.stores, k.work))) (λ p. record { fresh = p.0; stores = p.1.0; work = p.1.1 }) (λ _. refl)

abbrev pub whole_session_code : Coded WholeSession
whole_session_code =
    code_by (SeenSession × Keep) (coded× seen_code keep_code) (λ w. (w.seen, w.keep))
    (λ p. record { seen = p.0; keep = p.1 }) (λ _. refl)

abbrev pub seen_of : Inside → SeenSession
seen_of s = record { state = s.state; width = s.view.width; height = s.view.height; fresh = s.asked }

-- a view that was given a change that is ready
abbrev pub view_with : WholeView → Prepared → WholeView
view_with v p =
    let buffers : List Buffer = with_tree v.buffers p.buffer p.tree in record v {
      buffers = buffers;
      fresh = false;
      shown = record { units = []; pages = [] };
      row_parts = [];
      stores = Carry p.buffer p.mods v.buffers v.stores buffers;
    }

-- the cache of a view
abbrev pub keep_of : WholeView → Keep
keep_of v = record { fresh = v.fresh; stores = v.stores; work = v.work }

abbrev pub whole_session : Inside → WholeSession
whole_session s = record { seen = seen_of s; keep = keep_of s.view }

-- the view is one of the present buffers, and it was made where it was asked
pub record IsSession (s : Inside) : Type 0 where
  pub buffers : s.view.buffers ≡ s.state.buffers
  pub fresh : s.asked ≡ true → s.view.fresh ≡ true
