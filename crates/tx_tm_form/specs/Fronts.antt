-- Where the machine can go on.
use Rattle.std.specs.Prelude.{◌≡◌, ◌⊎◌, ◌≤◌, ℕ, suc, Bool, true, false, ◌==◌}
use Rattle.std.specs.Prelude.{◌&&◌, List, [], ◌∷◌, length, take, Option, None}
use Rattle.tx_base.specs.Fronts.{IsLongestFront}
use Rattle.tx_tree.specs.WideTree.{WideTree}
use Rattle.tx_tm_form.specs.declared.places.TagForm.{TagForm}
use Rattle.tx_tm_form.specs.declared.places.TagForm.TheVariants.{Short, Long, Middle, Closing}
use Rattle.tx_tm_form.specs.declared.places.TagPlace.{TagPlace}
use Rattle.tx_tm_form.specs.Forms.{Spells}
use Rattle.tx_tm_form.specs.Growing.{Content, place_of}
use Rattle.tx_tm_form.specs.Machine.{Open, State, reading, failed, Lex, ready, slashed, returned}
use Rattle.tx_tm_form.specs.Machine.{angled, labelled, Bytewise, at, lost, Keeping, keep, start, run}

-- the bytes l are the first of m, or all
abbrev pub begins : List ℕ → List ℕ → Bool
begins [] m = true
begins (b ∷ l) [] = false
begins (b ∷ l) (c ∷ m) = b == c && begins l m

-- in a block of an open long tag, l is its label so far
abbrev pub begins_open : Option TagPlace → List ℕ → List Open → Bool
begins_open None l (f ∷ fs) = begins l f.label
begins_open _ l fs = false

-- a tag may begin so here
abbrev pub can_begin : TagForm → List ℕ → Content → List Open → Bool
can_begin Short l here fs = true
can_begin Long l here fs = true
can_begin Middle l here fs = begins_open (place_of here) l fs
can_begin Closing l here fs = begins_open (place_of here) l fs

-- A token that has begun can go on to one that the state takes. A join can always come.
abbrev pub can_go_on : Lex → State → Bool
can_go_on q failed = false
can_go_on ready s = true
can_go_on slashed s = true
can_go_on returned s = true
can_go_on angled (reading here fs) = true
can_go_on angled s = false
can_go_on (labelled form l) (reading here fs) = can_begin form l here fs
can_go_on (labelled form l) s = false

abbrev pub goes_on : Bytewise Keeping → Bool
goes_on (at q k) = can_go_on q k.state
goes_on lost = false

-- the machine goes on after the first n bytes, and not after one byte more
pub record StopsAt (bytes : List ℕ) (n : ℕ) : Type 0 where
  pub within : n ≤ length bytes
  pub taken : goes_on (run keep start (take n bytes)) ≡ true
  pub stop : (n ≡ length bytes) ⊎ (goes_on (run keep start (take (suc n) bytes)) ≡ false)

-- the first n bytes can be continued to bytes that spell a tree, and no more of them can
abbrev pub IsLongestTmFront : List ℕ → ℕ → Type 0
IsLongestTmFront = IsLongestFront (λ bytes. (t : WideTree) × Spells bytes t)
