-- What is known of layers' trees after a walk.
use Rattle.std.proofs.Common.{◌≡◌, ℕ, ◌+◌, List, [], ◌∷◌, ◌++◌, ap, ◌∙◌, arith}
use Rattle.std.specs.Prelude.{Option, Some, None, IfSome}
use Rattle.std.specs.Option.{option_map}
use Rattle.tx_tree.specs.WideTree.{WideTree}
use Rattle.tx_exec_form.specs.Runs.{Before}
use Rattle.tx_exec_form.specs.Evaluated.{WideTrace}
use Rattle.tx_parts.specs.Opening.{Sheller}
use Rattle.tx_parts.specs.LayerCosts.{Holder, HoldsMore, layer_costs_by}
use Rattle.tx_walk.specs.LayerTraces.{TreeTrace, DoneSetting, holds_in, IsHeldWith, AllHeldBy, AreKnown, AreKnownBy}
use Rattle.tx_walk.specs.Layers.{new_nodes}

-- where it costs the same and sets nothing else
pub known_as : (cost cost1 : Holder → ℕ) (f : WideTrace → WideTrace) (old new : List TreeTrace)
    (o r : Option WideTrace) → ((held : Holder) → cost1 held ≡ cost held) → r ≡ option_map f o →
    AreKnown cost old new o → AreKnown cost1 old new r
known_as cost cost1 f old new o None same g h = tt
known_as cost cost1 f old new None (Some w) same g h = cc
known_as cost cost1 f old new (Some u) (Some w) same g h =
    record { more = h.more; nothing = λ held p. same held ∙ h.nothing held p }

pub known_same : (cost cost1 : Holder → ℕ) (old new : List TreeTrace) (o : Option WideTrace) →
    ((held : Holder) → cost1 held ≡ cost held) → AreKnown cost old new o → AreKnown cost1 old new o
known_same cost cost1 old new None same h = tt
known_same cost cost1 old new (Some u) same h =
    record { more = h.more; nothing = λ held p. same held ∙ h.nothing held p }

-- where it costs nothing
pub known_nothing : (cost : Holder → ℕ) (old new : List TreeTrace) (o : Option WideTrace) → new ≡ old →
    ((held : Holder) → cost held ≡ 0) → AreKnown cost old new o
known_nothing cost old new None same none = tt
known_nothing cost old new (Some u) same none =
    record { more = more; nothing = λ held p. none held }
  where
    more : HoldsMore (holds_in old) (holds_in new)
    more t e h = ap (λ ms. holds_in ms t e) same ∙ h

-- nothing of layers is left to evaluate where all of these are cached
pub nothing_left : (sheller : Sheller) (k c : ℕ) (t : WideTree) (e : Before) (old new kept : List TreeTrace)
    (o : Option WideTrace) → AreKnownBy sheller k c t e old new o →
    IfSome o (λ (trace : WideTrace). kept ≡ new) →
    IfSome o (λ (trace : WideTrace). layer_costs_by (holds_in kept) sheller k c t e ≡ 0)
nothing_left sheller k c t e old new kept None h g = tt
nothing_left sheller k c t e old new kept (Some u) h g =
    ap (λ ms. layer_costs_by (holds_in ms) sheller k c t e) g ∙ h.nothing (holds_in new) (λ v d p. p)

-- ---- lists of settings

pub all_more : (held more : Holder) → HoldsMore held more → (ss : List DoneSetting) → AllHeldBy held ss →
    AllHeldBy more ss
all_more held more both [] h = tt
all_more held more both (s ∷ ss) h = (λ e p. both s.done.tree e (h.0 e p), all_more held more both ss h.1)

pub all_front : (held : Holder) (ss : List DoneSetting) (s : DoneSetting) → AllHeldBy held (ss ++ s ∷ []) →
    AllHeldBy held ss × IsHeldWith held s.done
all_front held [] s h = (tt, h.0)
all_front held (x ∷ ss) s h =
    let rest : AllHeldBy held ss × IsHeldWith held s.done = all_front held ss s h.1 in
    ((h.0, rest.0), rest.1)

pub all_with : (held : Holder) (ss : List DoneSetting) (s : DoneSetting) → AllHeldBy held ss →
    IsHeldWith held s.done → AllHeldBy held (ss ++ s ∷ [])
all_with held [] s h g = (g, tt)
all_with held (x ∷ ss) s h g = (h.0, all_with held ss s h.1 g)

pub nodes_both : (ss us : List DoneSetting) → new_nodes (ss ++ us) ≡ new_nodes ss + new_nodes us
nodes_both [] us = omega arith
nodes_both (s ∷ ss) us =
    let rest : new_nodes (ss ++ us) ≡ new_nodes ss + new_nodes us = nodes_both ss us in
    omega (arith, rest)
