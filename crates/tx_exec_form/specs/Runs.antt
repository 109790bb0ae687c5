-- What evaluation does: it goes on from a state, or it runs out.
use Rattle.std.specs.Prelude.{ℕ, ◌-◌, min, nat_le, if◌then◌else◌, Option, Some, None}
use Rattle.std.specs.FinMap.{get}
use Rattle.tx_tree.specs.WideTree.{WideTree}
use Rattle.tx_env.specs.Pairs.{Name}
use Rattle.tx_env.specs.Environments.{NameMap}
use Rattle.tx_env.specs.Changes.{with_pair}
use Rattle.tx_exec_form.specs.Maps.{LookMap, noted}

-- what names have before the evaluation
abbrev pub Before : Type 0
Before = Name → Option WideTree

-- What the evaluation has set so far, what it has looked up, the steps that are left, and how many levels were left
-- where the fewest were.
pub record State : Type 0 where
  pub own : NameMap
  pub looks : LookMap
  pub left : ℕ
  pub slack : ℕ

pub data Ran (A : Type 0) : Type 0 where
  Over : Ran A
  Done : A → State → Ran A

abbrev pub Run : Type 0 → Type 0
Run A = Before → State → Ran A

abbrev pub on_done : {A B : Type 0} → Before → (A → Run B) → Ran A → Ran B
on_done e f Over = Over
on_done e f (Done a s) = f a e s

infixl 10 ◌>>=◌
abbrev pub ◌>>=◌ : {A B : Type 0} → Run A → (A → Run B) → Run B
m >>= f = λ e s. on_done e f (m e s)

infixl 10 ◌>>◌
abbrev pub ◌>>◌ : {A B : Type 0} → Run A → Run B → Run B
m >> n = m >>= λ _. n

abbrev pub give : {A : Type 0} → A → Run A
give a = λ e s. Done a s

abbrev pub over : {A : Type 0} → Run A
over = λ e s. Over

-- n steps are taken
unfoldable pub pay : ℕ → Run (Unit {0})
pay n = λ e s. if nat_le n s.left then Done tt (record s { left = s.left - n }) else Over

-- n of k levels are needed
unfoldable pub need : ℕ → ℕ → Run (Unit {0})
need n k = λ e s. if nat_le n k then Done tt (record s { slack = min s.slack (k - n) }) else Over

-- A name is looked up first in what the evaluation has set. Else it is a look.
abbrev pub from_own : Name → Option WideTree → Run (Option WideTree)
from_own x (Some t) = give (Some t)
from_own x None = λ e s. Done (e x) (record s { looks = noted s.looks x (e x) })

unfoldable pub look : Name → Run (Option WideTree)
look x = λ e s. from_own x (get s.own x) e s

abbrev pub set : Name → Option WideTree → Run (Unit {0})
set x t = λ e s. Done tt (record s { own = with_pair x t s.own })
