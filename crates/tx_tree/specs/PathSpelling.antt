-- How paths are spelled: a / alone, or a / before each of 1 to 400 numbers.
use Rattle.std.specs.Prelude.{◌≡◌, ℕ, ◌+◌, ◌-◌, ◌*◌, ◌≤◌, Bool, true, ◌&&◌, nat_le, List, [], ◌∷◌, ◌++◌, length}
use Rattle.std.specs.Prelude.{decimal}
use Rattle.std.specs.List.{AllByRecursion, flat_map}
use Rattle.tx_base.specs.Fronts.{IsLongestFront}
use Rattle.tx_tree.specs.declared.TheConstants.{MOST_STEPS, MOST_DIGITS, MOST_NUMBER}
use Rattle.tx_tree.specs.declared.faults.PathFault.{PathFault}
use Rattle.tx_tree.specs.declared.faults.PathFault.TheVariants.{BadPath, Memory}

abbrev pub is_digit : ℕ → Bool
is_digit b = nat_le 48 b && nat_le b 57

-- the number that the digits write after those of n
abbrev pub number_after : ℕ → List ℕ → ℕ
number_after n [] = n
number_after n (b ∷ digits) = number_after (n * 10 + (b - 48)) digits

-- the digits write the number n
pub record IsNumber (digits : List ℕ) (n : ℕ) : Type 0 where
  pub each : AllByRecursion (λ b. is_digit b ≡ true) digits
  pub some : 1 ≤ length digits
  pub short : length digits ≤ MOST_DIGITS
  pub value : n ≡ number_after 0 digits
  pub fits : n ≤ MOST_NUMBER

-- the bytes are a / and a number, for each number of the path
abbrev pub AreNumbers : List ℕ → List ℕ → Type 0
AreNumbers bytes [] = bytes ≡ []
AreNumbers bytes (n ∷ path) = (digits rest : List ℕ) × IsNumber digits n × (bytes ≡ 47 ∷ (digits ++ rest))
    × AreNumbers rest path

-- the bytes spell the path
abbrev pub SpellsPath : List ℕ → List ℕ → Type 0
SpellsPath bytes [] = bytes ≡ 47 ∷ []
SpellsPath bytes (n ∷ path) = AreNumbers bytes (n ∷ path) × (length (n ∷ path) ≤ MOST_STEPS)

-- the bytes spell some path
abbrev pub IsPathSpelling : List ℕ → Type 0
IsPathSpelling bytes = (path : List ℕ) × SpellsPath bytes path

-- why bytes spell no path: so many of them and no more can be continued to a spelling
abbrev pub IsPathFault : List ℕ → PathFault → Type 0
IsPathFault bytes (BadPath n) = IsLongestFront IsPathSpelling bytes n × (IsPathSpelling bytes → ⊥)
IsPathFault bytes Memory = ⊥

-- a / and the digits of each number
abbrev pub numbers_text : List ℕ → List ℕ
numbers_text path = flat_map (λ i. 47 ∷ decimal i) path

-- a path as it is printed
abbrev pub path_text : List ℕ → List ℕ
path_text [] = 47 ∷ []
path_text (n ∷ path) = numbers_text (n ∷ path)

-- a place as it is printed, with the offset as the last number
abbrev pub place_text : List ℕ → ℕ → List ℕ
place_text path o = numbers_text (path ++ o ∷ [])
