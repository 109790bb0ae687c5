-- What the evaluation of an open tree does before and after its inner trees.
use Rattle.std.specs.Prelude.{ℕ, List}
use Rattle.tx_exec_form.specs.Runs.{Run, ◌>>=◌, ◌>>◌, give, pay, need, look}
use Rattle.tx_exec_form.specs.Rows.{Sets, kept, set_all}
use Rattle.tx_parts.specs.Openness.{Settings}
use Rattle.tx_parts.specs.Composed.{setting_pairs, settings_cost}
use Rattle.tx_parts.specs.Layered.{as_sets}

-- a level and a step
unfoldable pub entered : ℕ → Run (Unit {0})
entered k = do
  need 1 k
  pay 1

-- these names are set. Returned is what each had before
unfoldable pub names_set : Sets → Run Sets
names_set ps = do
  old ← kept ps
  set_all ps
  give old

-- a level and a step, n steps more, and then names are set
unfoldable pub names_begun : ℕ → ℕ → Sets → Run Sets
names_begun k n ps = do
  entered k
  pay n
  names_set ps

-- the names and texts of a `with`, and what they set
abbrev pub settings_set : ℕ → Settings → Run Sets
settings_set k ps = names_begun k (settings_cost ps) (as_sets (setting_pairs ps))

-- a level, a step, and the look at the label of a tag
unfoldable pub label_looked : ℕ → List ℕ → Run (Unit {0})
label_looked k label = do
  entered k
  _ ← look label
  give tt
