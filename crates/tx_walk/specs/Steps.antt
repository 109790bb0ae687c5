-- The steps of a walk by parts.
use Rattle.std.specs.Prelude.{◌≡◌, ◌<◌, ◌≤◌, ℕ, ◌+◌, ◌-◌, max, codes, nat_le, ◌&&◌, if◌then◌else◌, Bool, true, false}
use Rattle.std.specs.Prelude.{List, [], ◌∷◌, ◌++◌, map, length}
use Rattle.std.specs.Prelude.{Option, Some, None, is_some}
use Rattle.std.specs.FinMap.{get, from_entries}
use Rattle.tx_tree.specs.WideTree.{WideTree, total_size, deepest}
use Rattle.tx_env.specs.Changes.{map_of}
use Rattle.tx_env.specs.Environments.{Environment, NameMap}
use Rattle.tx_origin.specs.Values.{made, vals, plains}
use Rattle.tx_origin.specs.Under.{value_under}
use Rattle.tx_env.specs.Pairs.{Name}
use Rattle.tx_exec_form.specs.Maps.{LookMap, noted}
use Rattle.tx_exec_form.specs.Runs.{Before}
use Rattle.tx_exec_form.specs.Evaluated.{WideTrace}
use Rattle.tx_exec.specs.Outcomes.{wide_trace}
use Rattle.tx_exec.specs.States.{before_of}
use Rattle.tx_parts.specs.Atop.{atop, env_atop, both_looks}
use Rattle.tx_parts.specs.Composed.{evaluates, SoFar, nothing_yet, children_from}
use Rattle.tx_parts.specs.Parts.{Part, parts_by, parts_from}
use Rattle.tx_parts.specs.LayerCosts.{counts_from, layer_costs_by}
use Rattle.tx_walk.specs.declared.part.Part.{Part as DonePart}
use Rattle.tx_walk.specs.declared.joined.Joined.{Joined}
use Rattle.tx_walk.specs.Held.{Stores}
use Rattle.tx_walk.specs.LayerTraces.{TreeTrace, LayersKnown}
use Rattle.tx_walk.specs.Guides.{Guide, charged, charged_from}
use Rattle.tx_walk.specs.Walked.{IsTidy, IsPlaced, Seen, seen, seen_in}

-- the trace with each origin of its value under the path
abbrev pub trace_under : List ℕ → WideTrace → WideTrace
trace_under base trace = record trace { value = value_under base trace.value }

-- what names have after a tree that doesn't run out
abbrev pub IsBehind : Before → Before → Option WideTrace → Type 0
IsBehind before after None = Unit {0}
IsBehind before after (Some trace) = after ≡ env_atop trace.writes before

-- the parts of a tree that doesn't run out are put after the others
abbrev pub IsAdded : Stores → List Part → List DonePart → List DonePart → Option WideTrace → Type 0
IsAdded kept ps old new None = Unit {0}
IsAdded kept ps old new (Some trace) = map seen new ≡ map seen old ++ map (seen_in kept) ps

-- a tree that runs out has none
abbrev pub parts_if_done : Option WideTrace → List DonePart → List DonePart
parts_if_done None ps = []
parts_if_done (Some trace) ps = ps

-- what a part with this trace evaluates to, with so many levels and steps
abbrev pub settled : ℕ → ℕ → List ℕ → WideTrace → Option WideTrace
settled k c base trace =
    if nat_le trace.cost c && nat_le trace.height k then Some (trace_under base trace) else None

-- a part as a walk returns it
pub record IsReady (p : DonePart) : Type 0 where
  pub tidy : IsTidy p
  pub placed : IsPlaced p

-- the part is put after the others
abbrev pub IsPushed : List DonePart → DonePart → List DonePart → Option WideTrace → Type 0
IsPushed old p new None = Unit {0}
IsPushed old p new (Some trace) = new ≡ old ++ p ∷ []

-- the part that was evaluated is put after the others
pub record NewPushed (k c : ℕ) (path : List ℕ) (t : WideTree) (e : Before) (old new : List DonePart) : Type 0 where
  pub part : DonePart
  pub pushed : new ≡ old ++ part ∷ []
  pub stands : part.path ≡ path
  pub renewed : part.renewed ≡ true
  pub comes : evaluates k c t e ≡ Some (wide_trace part.trace)

abbrev pub IsNewPushed : ℕ → ℕ → List ℕ → WideTree → Before → List DonePart → List DonePart → Option WideTrace → Type 0
IsNewPushed k c path t e old new None = Unit {0}
IsNewPushed k c path t e old new (Some trace) = NewPushed k c path t e old new

-- ---- the children of a `document`

abbrev pub so_far_of : Joined → SoFar
so_far_of j = record {
  values = j.values.items;
  looks = from_entries j.looks;
  writes = map_of j.writes;
  cost = j.cost;
  height = j.height;
}

-- with this look after the others, unless the name was set
abbrev pub look_behind : NameMap → LookMap → Name → Option WideTree → LookMap
look_behind own looks x found = if is_some (get own x) then looks else noted looks x found

-- with this trace after the others
abbrev pub joined_with : SoFar → WideTrace → SoFar
joined_with a trace = record {
  values = a.values ++ trace.value ∷ [];
  looks = both_looks a.looks a.writes trace.looks;
  writes = atop trace.writes a.writes;
  cost = a.cost + trace.cost;
  height = max a.height trace.height;
}

-- what was joined: nothing more, where there is no trace
abbrev pub IsJoined : SoFar → SoFar → Option WideTrace → Bool → Type 0
IsJoined a b None went = went ≡ false
IsJoined a b (Some trace) went = (went ≡ true) × (b ≡ joined_with a trace)

-- the trace of the `document` at this origin
abbrev pub document_at : List ℕ → SoFar → WideTrace
document_at base a = record {
  value = made (codes "document") (vals a.values) (Some base);
  looks = a.looks;
  writes = a.writes;
  cost = 1 + a.cost;
  height = 1 + a.height;
}

-- the values make a node within the limits
pub record FitsNode (a : SoFar) : Type 0 where
  pub arity : length a.values ≤ 65535
  pub size : total_size (plains (vals a.values)) < 1000000
  pub depth : deepest (plains (vals a.values)) < 400
  pub cost : a.cost < 1000000
  pub height : a.height < 400

-- what children evaluated to, with the origins of their values under the path
abbrev pub below : List ℕ → SoFar → SoFar
below base a = record a { values = map (value_under base) a.values }

-- after some children: what they evaluated to, what names have, the parts that are done, the steps counted, and the
-- traces of layers' trees
pub record Stage : Type 0 where
  pub joined : SoFar
  pub names : Before
  pub done : List Seen
  pub count : ℕ
  pub layers : List TreeTrace

abbrev pub stage_of : Joined → Environment → List DonePart → ℕ → List TreeTrace → Stage
stage_of j env done count layers =
    record { joined = so_far_of j; names = before_of env; done = map seen done; count = count; layers = layers }

-- the child of number i is done
pub record ChildDone (guide : Guide) (k c : ℕ) (path : List ℕ) (i : ℕ) (t : WideTree) (s s1 : Stage) : Type 0 where
  pub trace : WideTrace
  pub comes : evaluates k (c - s.joined.cost) t s.names ≡ Some trace
  pub joined : s1.joined ≡ joined_with s.joined (trace_under (path ++ i ∷ []) trace)
  pub names : s1.names ≡ env_atop trace.writes s.names
  pub done : s1.done ≡ s.done ++ map (seen_in guide.stores)
      (parts_by guide.sheller k (c - s.joined.cost) (path ++ i ∷ []) t s.names)
  pub count : s1.count ≡ s.count + charged guide k (c - s.joined.cost) (path ++ i ∷ []) t s.names
  pub known : LayersKnown (λ held. layer_costs_by held guide.sheller k (c - s.joined.cost) t s.names)
      s.layers s1.layers

-- it runs out
pub record ChildOver (guide : Guide) (k c : ℕ) (path : List ℕ) (i : ℕ) (t : WideTree) (s s1 : Stage) : Type 0 where
  pub comes : evaluates k (c - s.joined.cost) t s.names ≡ None
  pub count : s1.count ≡ s.count + charged guide k (c - s.joined.cost) (path ++ i ∷ []) t s.names

abbrev pub ChildComes : Guide → ℕ → ℕ → List ℕ → ℕ → WideTree → Stage → Stage → Bool → Type 0
ChildComes guide k c path i t s s1 true = ChildDone guide k c path i t s s1
ChildComes guide k c path i t s s1 false = ChildOver guide k c path i t s s1

-- all children are done
pub record ChildrenDone (guide : Guide) (k c : ℕ) (path : List ℕ) (kids : List WideTree) (s s1 : Stage) : Type 0
  where
    pub so_far : SoFar
    pub comes : children_from (evaluates k) c 0 nothing_yet kids s.names ≡ Some so_far
    pub joined : s1.joined ≡ below path so_far
    pub names : s1.names ≡ env_atop so_far.writes s.names
    pub done : s1.done ≡ s.done ++ map (seen_in guide.stores)
        (parts_from k (parts_by guide.sheller k) c path 0 nothing_yet kids s.names)
    pub count : s1.count ≡ s.count + charged_from guide k c path 0 nothing_yet kids s.names
    pub known : LayersKnown (λ held. counts_from k (layer_costs_by held guide.sheller k) c 0 nothing_yet kids s.names)
        s.layers s1.layers
    pub many : length so_far.values ≡ length kids

-- one of them runs out
pub record ChildrenOver (guide : Guide) (k c : ℕ) (path : List ℕ) (kids : List WideTree) (s s1 : Stage) : Type 0 where
  pub comes : children_from (evaluates k) c 0 nothing_yet kids s.names ≡ None
  pub count : s1.count ≡ s.count + charged_from guide k c path 0 nothing_yet kids s.names

abbrev pub ChildrenCome : Guide → ℕ → ℕ → List ℕ → List WideTree → Stage → Stage → Bool → Type 0
ChildrenCome guide k c path kids s s1 true = ChildrenDone guide k c path kids s s1
ChildrenCome guide k c path kids s s1 false = ChildrenOver guide k c path kids s s1
