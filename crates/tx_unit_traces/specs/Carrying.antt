-- Traces are carried with their units through an edit.
use Rattle.std.specs.Prelude.{◌≡◌, ◌⊎◌, ℕ, ◌+◌, Bool, true, false, ◌&&◌, ◌==◌, if◌then◌else◌, List, [], ◌∷◌, filter_map}
use Rattle.std.specs.Prelude.{Option, None, option_and_then, slice_get}
use Rattle.std.specs.Option.{option_map, option_map_or}
use Rattle.std.specs.List.{Contains}
use Rattle.std.specs.Str.{bytes_eq}
use Rattle.tx_tree.specs.WideTree.{WideTree}
use Rattle.tx_prim.specs.Same.{is_same}
use Rattle.tx_mod.specs.declared.mods.Mod.{Mod}
use Rattle.tx_mod.specs.Followed.{carried_by_all}
use Rattle.tx_kept.specs.declared.path_map.Entry.{Entry}
use Rattle.tx_kept.specs.Carrying.{carry}
use Rattle.tx_exec_form.specs.Evaluated.{WideTrace}
use Rattle.tx_units.specs.declared.kinds.Unit.{Unit as DocUnit}
use Rattle.tx_units.specs.declared.kinds.UnitKind.{UnitKind}
use Rattle.tx_units.specs.declared.kinds.UnitKind.TheVariants.{Base, Style, Absent, Initial, Body}
use Rattle.tx_unit_traces.specs.declared.cached_unit.CachedUnit.{CachedUnit}

-- ---- paragraphs of the body, by their paths

-- a trace, or nothing, at the path of each paragraph
abbrev pub Whole : Type 0
Whole = List (Entry (Option WideTrace))

abbrev pub whole_entry : CachedUnit → Option (Entry (Option WideTrace))
whole_entry u = option_map (λ p. record { path = p; value = u.trace }) u.unit.path

abbrev pub whole_of : List CachedUnit → Whole
whole_of us = filter_map whole_entry us

-- the trace at the path
abbrev pub trace_at : Whole → List ℕ → Option WideTrace
trace_at [] p = None
trace_at (x ∷ xs) p = if bytes_eq x.path p then x.value else trace_at xs p

-- ---- other units, by their numbers

abbrev pub same_kind : UnitKind → UnitKind → Bool
same_kind Base Base = true
same_kind (Style m) (Style n) = m == n
same_kind Absent Absent = true
same_kind Initial Initial = true
same_kind Body Body = true
same_kind j k = false

abbrev pub same_unit : DocUnit → DocUnit → Bool
same_unit u v = same_kind u.kind v.kind && is_same u.tagged.tree v.tagged.tree

-- the trace of the unit, if that has the kind and the tree of v
abbrev pub trace_if_same : DocUnit → CachedUnit → Option WideTrace
trace_if_same v u = if same_unit u.unit v then u.trace else None

-- ---- all units

-- The trace for the new unit v of number j. A paragraph takes that at its path, and another unit that of its number,
-- where kind and tree are the same.
abbrev pub trace_for : Whole → List CachedUnit → ℕ → DocUnit → Option WideTrace
trace_for whole old j v =
    option_map_or (trace_at whole) v.path (option_and_then (trace_if_same v) (slice_get old j))

-- the new units from number j on, each with the trace for it
abbrev pub taken_from : Whole → List CachedUnit → ℕ → List DocUnit → List CachedUnit
taken_from whole old j [] = []
taken_from whole old j (v ∷ vs) =
    record { unit = v; trace = trace_for whole old j v } ∷ taken_from whole old (j + 1) vs

-- The new units, after the modifications have changed the document t. A paragraph is the old one from whose path they
-- carry to its path.
abbrev pub carried_units : List Mod → WideTree → List CachedUnit → List DocUnit → List CachedUnit
carried_units ms t old new = taken_from (carry ms t (whole_of old)) old 0 new

-- ---- what holds of them

-- The trace of v is that of an old unit with its tree and its origin, whose path, if it has one, is carried to its own.
pub record IsFrom (ms : List Mod) (t : WideTree) (old : List CachedUnit) (v : CachedUnit) : Type 0 where
  pub source : CachedUnit
  pub among : Contains old source
  pub trace : v.trace ≡ source.trace
  pub tagged : v.unit.tagged ≡ source.unit.tagged
  pub path : v.unit.path ≡ option_and_then (carried_by_all ms t) source.unit.path

-- nothing is cached of it, or its trace is that of an old unit
abbrev pub IsFromIfCached : List Mod → WideTree → List CachedUnit → CachedUnit → Type 0
IsFromIfCached ms t old v = (v.trace ≡ None) ⊎ IsFrom ms t old v
