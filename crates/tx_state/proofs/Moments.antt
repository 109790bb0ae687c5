-- The edits that entries lead along.
use Rattle.std.proofs.Common.{◌≡◌, ℕ, zero, suc, ◌<◌, ◌≤◌, ◌-◌, List, [], ◌∷◌, ◌++◌, length, take, drop, reverse, Ok}
use Rattle.std.proofs.Common.{refl, sym, ap, ◌∙◌, arith, ⊎_elim}
use Rattle.std.specs.Prelude.{unwrap_or}
use Rattle.std.proofs.lemmas.List.{reverse-append, take-append-drop, take_at, take_all, length-drop, length-reverse}
use Rattle.std.proofs.lemmas.Bool.{cases_lt}
use Rattle.std.proofs.lemmas.Grind.{common_steps}
use Rattle.tx_tree.specs.WideTree.{WideTree}
use Rattle.tx_tree.specs.declared.places.Place.{Place}
use Rattle.tx_mod.specs.declared.mods.Mod.{Mod}
use Rattle.tx_mod.specs.Followed.{outcome_tree as made_of}
use Rattle.tx_mod.specs.InTurn.{changed_in_turn}
use Rattle.tx_history.specs.Lists.{newest}
use Rattle.tx_state.specs.declared.edits.Entry.{Entry}
use Rattle.tx_doc.specs.declared.buffer.Buffer.{Buffer}
use Rattle.tx_doc.specs.Buffers.{tree_of, with_tree}
use Rattle.tx_state.specs.Entries.{led_to, kept_edits, undoes, redoes, EntriesLead}
use Rattle.tx_state.specs.States.{KeptEdit}
use Rattle.tx_state.proofs.Trees.{tree_put, put_back}

-- an entry leads to what its modifications make
pub led_there : (bs : List Buffer) (e : Entry) (u : WideTree) → changed_in_turn e.mods (tree_of bs e.buffer) ≡ Ok u
    → led_to bs e ≡ with_tree bs e.buffer u
led_there bs e u h = ap (λ o. with_tree bs e.buffer (unwrap_or (made_of o) (tree_of bs e.buffer))) h

abbrev pub entry_of : ℕ → List Mod → Place → Entry
entry_of k mods c = record { buffer = k; mods = mods; cursor = c }

-- what leads back from there leads to the buffers as they were
pub led_back : (bs : List Buffer) (k : ℕ) (u : WideTree) (mods : List Mod) (c : Place) → k < length bs
    → changed_in_turn mods u ≡ Ok (tree_of bs k)
    → led_to (with_tree bs k u) (entry_of k mods c) ≡ bs
led_back bs k u mods c lt h =
    led_there (with_tree bs k u) (entry_of k mods c) (tree_of bs k) (ap (changed_in_turn mods) (tree_put bs k u lt) ∙ h)
    ∙ put_back bs k u lt

abbrev pub How : Type 0
How = List Buffer → Entry → List Mod

abbrev pub kept_edit : How → List Buffer → Entry → KeptEdit
kept_edit how bs e =
    record { moment = record { buffers = led_to bs e; cursor = e.cursor }; buffer = e.buffer; mods = how bs e }

-- each entry leads along one edit
number_of_edits : (how : How) (bs : List Buffer) (es : List Entry) → length (kept_edits how bs es) ≡ length es
number_of_edits how bs [] = refl
number_of_edits how bs (e ∷ es) = ap suc (number_of_edits how (led_to bs e) es)

number_of_turned : (how : How) (bs : List Buffer) (es : List Entry)
    → length (kept_edits how bs (reverse es)) ≡ length es
number_of_turned how bs es = number_of_edits how bs (reverse es) ∙ length-reverse es

pub number_of_past : (bs : List Buffer) (es : List Entry) → length (kept_edits undoes bs (reverse es)) ≡ length es
number_of_past bs es = number_of_turned undoes bs es

pub number_of_future : (bs : List Buffer) (es : List Entry) → length (kept_edits redoes bs (reverse es)) ≡ length es
number_of_future bs es = number_of_turned redoes bs es

-- the first edits are those of the first entries
pub edits_of_take : (how : How) (n : ℕ) (bs : List Buffer) (es : List Entry)
    → kept_edits how bs (take n es) ≡ take n (kept_edits how bs es)
edits_of_take how zero bs es = refl
edits_of_take how (suc n) bs [] = refl
edits_of_take how (suc n) bs (e ∷ es) = ap (λ ks. kept_edit how bs e ∷ ks) (edits_of_take how n (led_to bs e) es)

pub lead_of_take : (n : ℕ) (bs : List Buffer) (es : List Entry) → EntriesLead bs es → EntriesLead bs (take n es)
lead_of_take zero bs es h = tt
lead_of_take (suc n) bs [] h = tt
lead_of_take (suc n) bs (e ∷ es) h = (h.0, lead_of_take n (led_to bs e) es h.1)

-- the last of a list, from the end, are the first of it turned round
pub last_turned : {X : Type 0} → (d : ℕ) (xs : List X) → reverse (drop (length xs - d) xs) ≡ take d (reverse xs)
last_turned {X} d xs =
    let k : ℕ = length xs - d in
    let whole : reverse xs ≡ reverse (drop k xs) ++ reverse (take k xs) = ap reverse (sym (take-append-drop k xs))
    ∙ reverse-append (take k xs) (drop k xs) in
    let count : length (reverse (drop k xs)) ≡ length xs - k = length-reverse (drop k xs) ∙ length-drop k xs in
    ⊎_elim
    (λ (less : length xs < d). let none : k ≡ 0 = omega arith in
    ap (λ n. reverse (drop {A = X} n xs)) none ∙ sym (take_all d (reverse xs) (omega (arith, length-reverse xs))))
    (λ (more : d ≤ length xs). let same : length xs - k ≡ d = omega arith in
    sym (ap (take d) whole ∙ take_at (reverse (drop k xs)) (reverse (take k xs)) d (count ∙ same)))
    (cases_lt (length xs) d)

pub newest_turned : (d : ℕ) (es : List Entry) (e : Entry) → reverse (newest d (es ++ e ∷ [])) ≡ take d (e ∷ reverse es)
newest_turned d es e = last_turned d (es ++ e ∷ []) ∙ ap (take d) (reverse-append es (e ∷ []))

pub ruleset count_rules = (number_of_past, number_of_future, common_steps)
