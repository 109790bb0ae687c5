-- What leads back from where a tree was put in.
use Rattle.std.proofs.Common.{◌≡◌, ℕ, zero, suc, ◌<◌, List, [], ◌∷◌, ◌++◌, reverse, Ok, refl, sym, ap, ◌∙◌, subst}
use Rattle.std.proofs.Common.{length}
use Rattle.std.proofs.lemmas.List.{reverse-append}
use Rattle.tx_tree.specs.WideTree.{WideTree}
use Rattle.tx_tree.specs.Places.{IsPlace}
use Rattle.tx_tree.specs.declared.places.Place.{Place}
use Rattle.tx_mod.specs.declared.mods.Mod.{Mod}
use Rattle.tx_mod.specs.InTurn.{changed_in_turn, inverses_of}
use Rattle.tx_doc.specs.declared.buffer.Buffer.{Buffer}
use Rattle.tx_doc.specs.Buffers.{tree_of, with_tree, document_of}
use Rattle.tx_state.specs.declared.edits.Entry.{Entry}
use Rattle.tx_state.specs.States.{KeptEdit}
use Rattle.tx_state.specs.Entries.{led_to, kept_edits, undoes, redoes, EntriesLead}
use Rattle.tx_state.proofs.Trees.{tree_put, length_put}
use Rattle.tx_state.proofs.Moments.{How, entry_of, led_back}

-- a tree that was put into buffer k, with what leads back, to the cursor c
pub record IsLedBack (bs : List Buffer) (k : ℕ) (u : WideTree) (back : List Mod) (c : Place) : Type 0 where
  pub within : k < length bs
  pub returns : changed_in_turn back u ≡ Ok (tree_of bs k)
  pub place : IsPlace (document_of bs) c.path c.offset

pub lead_back : (bs : List Buffer) (k : ℕ) (u : WideTree) (back : List Mod) (c : Place) (es : List Entry)
    → IsLedBack bs k u back c → EntriesLead bs es
    → EntriesLead (with_tree bs k u) (entry_of k back c ∷ es)
lead_back bs k u back c es h all =
    let there : led_to (with_tree bs k u) (entry_of k back c) ≡ bs = led_back bs k u back c h.within h.returns in (
      record {
        buffer = subst (λ n. k < n) (sym (length_put bs k u h.within)) h.within;
        applies = (tree_of bs k, (ap (changed_in_turn back) (tree_put bs k u h.within) ∙ h.returns));
        cursor = subst (λ cs. IsPlace (document_of cs) c.path c.offset) (sym there) h.place;
      },
      subst (λ cs. EntriesLead cs es) (sym there) all,
    )

-- the edits after an entry that leads back
edits_back : (how : How) (bs : List Buffer) (k : ℕ) (u : WideTree) (back mods : List Mod) (c : Place) (es : List Entry)
    → IsLedBack bs k u back c
    → how (with_tree bs k u) (entry_of k back c) ≡ mods
    → kept_edits how (with_tree bs k u) (entry_of k back c ∷ es)
    ≡ record { moment = record { buffers = bs; cursor = c }; buffer = k; mods = mods } ∷ kept_edits how bs es
edits_back how bs k u back mods c es h e =
    ap (λ cs. record {
      moment = record { buffers = cs; cursor = c };
      buffer = k;
      mods = how (with_tree bs k u) (entry_of k back c);
    } ∷ kept_edits how cs es)
    (led_back bs k u back c h.within h.returns)
    ∙ ap (λ ms. record { moment = record { buffers = bs; cursor = c }; buffer = k; mods = ms } ∷ kept_edits how bs es) e

pub undoes_back : (bs : List Buffer) (k : ℕ) (u : WideTree) (back mods : List Mod) (c : Place) (es : List Entry)
    → IsLedBack bs k u back c → inverses_of back u ≡ mods
    → kept_edits undoes (with_tree bs k u) (entry_of k back c ∷ es)
    ≡ record { moment = record { buffers = bs; cursor = c }; buffer = k; mods = mods } ∷ kept_edits undoes bs es
undoes_back bs k u back mods c es h e =
    edits_back undoes bs k u back mods c es h (ap (inverses_of back) (tree_put bs k u h.within) ∙ e)

pub redoes_back : (bs : List Buffer) (k : ℕ) (u : WideTree) (back : List Mod) (c : Place) (es : List Entry)
    → IsLedBack bs k u back c
    → kept_edits redoes (with_tree bs k u) (entry_of k back c ∷ es)
    ≡ record { moment = record { buffers = bs; cursor = c }; buffer = k; mods = back } ∷ kept_edits redoes bs es
redoes_back bs k u back c es h = edits_back redoes bs k u back back c es h refl

-- the newest entry is first in the list turned round
pub turned_round : (es : List Entry) (e : Entry) (all : List Entry) → all ≡ es ++ e ∷ [] → reverse all ≡ e ∷ reverse es
turned_round es e all h = ap reverse h ∙ reverse-append es (e ∷ [])
