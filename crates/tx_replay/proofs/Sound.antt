-- A cached trace at the path of a child supports the tree there.
use Rattle.std.proofs.Common.{◌≡◌, ℕ, List, [], ◌∷◌, ◌++◌, ap, sym, subst, ◌∙◌, append_assoc}
use Rattle.std.specs.Prelude.{Some, slice_get, option_and_then}
use Rattle.tx_tree.specs.WideTree.{WideTree, children_of}
use Rattle.tx_tree.specs.Paths.{subtree}
use Rattle.tx_replay.specs.Held.{Store, Stores, IsSound, AreSound}

below_child : (kept : Store) (path : List ℕ) (t u : WideTree) (i : ℕ) → slice_get (children_of t) i ≡ Some u →
    IsSound kept path t → IsSound kept (path ++ i ∷ []) u
below_child kept path t u i there sound =
    record {
      holds = λ below v trace leads is.
          sound.holds (i ∷ below) v trace
          (ap (option_and_then (λ w. subtree w below)) there ∙ leads)
          (ap kept (sym (append_assoc path (i ∷ []) below)) ∙ is);
    }

pub child_sound : (kept : Stores) (path : List ℕ) (t u : WideTree) (i : ℕ) → slice_get (children_of t) i ≡ Some u →
    AreSound kept path t → AreSound kept (path ++ i ∷ []) u
child_sound kept path t u i there sound =
    record {
      own = below_child kept.own path t u i there sound.own;
      spare = below_child kept.spare path t u i there sound.spare;
    }

pub sound_at : (kept : Stores) (path at : List ℕ) (t : WideTree) → at ≡ path → AreSound kept path t →
    AreSound kept at t
sound_at kept path at t e sound = subst (λ p. AreSound kept p t) (sym e) sound
