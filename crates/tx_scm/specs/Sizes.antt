-- The size of what the reader has begun. Only private clauses cite it.
use Rattle.std.specs.Prelude.{◌≡◌, ℕ, ◌+◌, List, [], ◌∷◌, length}
use Rattle.tx_tree.specs.WideTree.{forest, size_of, total_size}
use Rattle.tx_scm.specs.declared.kinds.Kind.{Kind}
use Rattle.tx_scm.specs.declared.kinds.Kind.TheVariants.{Opens, Quote, Backslash}
use Rattle.tx_scm.specs.Machine.{Open, State, between, opened, naming, texting, escaping, whole, failed}

-- the size of all open brackets
abbrev pub opens_size : List Open → ℕ
opens_size [] = 0
opens_size (o ∷ opens) = 1 + total_size (forest o.children) + opens_size opens

-- what was begun has size n
abbrev pub IsSized : ℕ → State → Type 0
IsSized n failed = Unit {0}
IsSized n (between opens) = n ≡ opens_size opens
IsSized n (opened opens) = n ≡ 1 + opens_size opens
IsSized n (naming label opens) = n ≡ 1 + opens_size opens
IsSized n (texting text opens) = n ≡ 1 + length text + opens_size opens
IsSized n (escaping text opens) = n ≡ 1 + length text + opens_size opens
IsSized n (whole t) = n ≡ size_of t

-- a bracket and a string begin with size 1
abbrev pub begun_by : Kind → ℕ
begun_by Opens = 1
begun_by Quote = 1
begun_by _ = 0

-- a byte in a string counts 1, unless it ends the string or escapes the next
abbrev pub texted_by : Kind → ℕ
texted_by Quote = 0
texted_by Backslash = 0
texted_by _ = 1

-- by how much a byte of this kind makes the size larger
abbrev pub grown_by : State → Kind → ℕ
grown_by (between opens) kind = begun_by kind
grown_by (naming label opens) kind = begun_by kind
grown_by (texting text opens) kind = texted_by kind
grown_by (escaping text opens) kind = 1
grown_by _ kind = 0
