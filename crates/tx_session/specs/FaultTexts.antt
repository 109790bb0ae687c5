-- Faults of readers, as they are printed.
use Rattle.std.specs.Prelude.{ℕ, List, [], ◌∷◌, ◌++◌, codes, decimal}
use Rattle.tx_tree.specs.declared.faults.Which.{Which}
use Rattle.tx_tree.specs.declared.faults.Which.TheVariants.{Text, Arity, Depth, Size}
use Rattle.tx_tree.specs.declared.faults.ReadFault.{ReadFault}
use Rattle.tx_tree.specs.declared.faults.ReadFault.TheVariants.{Unclosed, Stray, BadEscape, BadLabel}
use Rattle.tx_tree.specs.declared.faults.ReadFault.TheVariants.{BadText, Mismatch, After, Limit, Memory}

abbrev pub limit_word : Which → List ℕ
limit_word Text = codes "text "
limit_word Arity = codes "arity "
limit_word Depth = codes "depth "
limit_word Size = codes "size "

abbrev pub read_fault_text : ReadFault → List ℕ
read_fault_text (Unclosed n) = codes "unclosed " ++ decimal n
read_fault_text (Stray n) = codes "stray " ++ decimal n
read_fault_text (BadEscape n) = codes "bad-escape " ++ decimal n
read_fault_text (BadLabel n) = codes "bad-label " ++ decimal n
read_fault_text (BadText n) = codes "bad-text " ++ decimal n
read_fault_text (Mismatch tag n) = codes "mismatch " ++ (decimal tag ++ (32 ∷ decimal n))
read_fault_text (After n) = codes "after " ++ decimal n
read_fault_text (Limit which n) = codes "limit " ++ (limit_word which ++ decimal n)
read_fault_text Memory = []
