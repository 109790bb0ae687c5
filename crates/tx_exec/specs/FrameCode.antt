-- The code by which proofs tell frames apart.
use base.Stored.{Gv, gnil, gnum, gcons}
use Rattle.std.specs.Prelude.{◌≡◌, ℕ, List, Option, refl}
use Rattle.std.specs.Coded.{Coded, code_by, coded×, coded_ℕ, coded_list, coded_option}
use Rattle.std.proofs.Common.{ap}
use Rattle.tx_tree.specs.WideTree.{WideTree, coded_WideTree}
use Rattle.tx_origin.specs.TaggedTrees.{TaggedTree}
use Rattle.tx_exec_form.specs.Frames.{Frame, top, call, call_all}

pub tag_code : Coded TaggedTree
tag_code =
    code_by (WideTree × Option (List ℕ)) (coded× coded_WideTree (coded_option (coded_list coded_ℕ)))
    (λ t. (t.tree, t.at)) (λ p. record { tree = p.0; at = p.1 }) (λ _. refl)

pub name_code : Coded (List ℕ)
name_code = coded_list coded_ℕ

pub names_code : Coded (List (List ℕ))
names_code = coded_list (coded_list coded_ℕ)

pub tags_code : Coded (List TaggedTree)
tags_code = coded_list tag_code

abbrev pub frame_code : Frame → Gv
frame_code top = gnil
frame_code (call names tags caller) =
    gcons (gnum 0) (gcons (names_code.code names) (gcons (tags_code.code tags) (frame_code caller)))
frame_code (call_all name tags caller) =
    gcons (gnum 1) (gcons (name_code.code name) (gcons (tags_code.code tags) (frame_code caller)))

abbrev left_part : Gv → Gv
left_part gnil = gnil
left_part (gnum n) = gnil
left_part (gcons a b) = a

abbrev right_part : Gv → Gv
right_part gnil = gnil
right_part (gnum n) = gnil
right_part (gcons a b) = b

pub frame_once : (f g : Frame) → frame_code f ≡ frame_code g → f ≡ g
frame_once top top e = refl
frame_once top (call names tags caller) e = cc
frame_once top (call_all name tags caller) e = cc
frame_once (call names tags caller) top e = cc
frame_once (call_all name tags caller) top e = cc
frame_once (call names tags caller) (call_all name' tags' caller') e = cc
frame_once (call_all name tags caller) (call names' tags' caller') e = cc
frame_once (call names tags caller) (call names' tags' caller') e =
    let first : names ≡ names' = names_code.inj names names' (ap (λ g. left_part (right_part g)) e) in
    let second : tags ≡ tags' = tags_code.inj tags tags' (ap (λ g. left_part (right_part (right_part g))) e) in
    let third : caller ≡ caller' = frame_once caller caller' (ap (λ g. right_part (right_part (right_part g))) e) in
    cc
frame_once (call_all name tags caller) (call_all name' tags' caller') e =
    let first : name ≡ name' = name_code.inj name name' (ap (λ g. left_part (right_part g)) e) in
    let second : tags ≡ tags' = tags_code.inj tags tags' (ap (λ g. left_part (right_part (right_part g))) e) in
    let third : caller ≡ caller' = frame_once caller caller' (ap (λ g. right_part (right_part (right_part g))) e) in
    cc

abbrev pub coded_Frame : Coded Frame
coded_Frame = record { code = frame_code; inj = frame_once }
