use Rattle.std.proofs.Common.{◌≤◌, ℕ, List, sym, ap, subst, ◌∙◌}
use Rattle.std.specs.List.{list_all, All, flat_map}
use Rattle.std.specs.Str.{IsUtf8}
use Rattle.std.proofs.lemmas.Result.{IfOk-weaker}
use Rattle.tx_text.specs.declared.cutting.Cluster.{Cluster}
use Rattle.tx_text.specs.Displays.{display_text}
use Rattle.tx_text.specs.Clusters.{items_of}
use Rattle.tx_text.specs.Places.{is_plain_byte, plain_clusters}
use Rattle.tx_text.proofs.Plain.{plain_by_test, plain_utf8}
use Rattle.tx_text.proofs.Spreading.{cut_is, narrow}
use Rattle.tx_text.proofs.Holding.{whole}
use Rattle.tx_text.proofs.cutting.clusters.Goals as goal

-- the characters of clusters, in order
abbrev glyphs_in : List Cluster → List ℕ
glyphs_in found = flat_map (λ cluster. cluster.glyphs) found

pub returns-then-is_plain-clause-clusters : goal.returns-then-is_plain-clause-clusters
returns-then-is_plain-clause-clusters c =
    let same = c.bytes-bytes.ensures.bytes in
    let test = ap (list_all is_plain_byte) (sym same) ∙ sym c.is_plain.ensures ∙ c.if-is_plain.true in
    IfOk-weaker c.plain_clusters.result _ _
    (λ found is. is ∙ ap (plain_clusters 0) same ∙ sym (plain_by_test c.args.text.now test))
    c.plain_clusters.ensures

pub returns-then-is_plain-clause-narrow : goal.returns-then-is_plain-clause-narrow
returns-then-is_plain-clause-narrow c =
    let same = c.bytes-bytes.ensures.bytes in
    let test = ap (list_all is_plain_byte) (sym same) ∙ sym c.is_plain.ensures ∙ c.if-is_plain.true in
    let P : List Cluster → Type 0 = λ l. All (λ cluster. cluster.cells ≤ 2) l in
    IfOk-weaker c.plain_clusters.result _ _
    (λ found is. subst P (sym (is ∙ ap (plain_clusters 0) same ∙ sym (plain_by_test c.args.text.now test)))
    (narrow (items_of c.args.text.now)))
    c.plain_clusters.ensures

pub returns-then-is_plain-clause-whole : goal.returns-then-is_plain-clause-whole
returns-then-is_plain-clause-whole c =
    let same = c.bytes-bytes.ensures.bytes in
    let test = ap (list_all is_plain_byte) (sym same) ∙ sym c.is_plain.ensures ∙ c.if-is_plain.true in
    let items = items_of c.args.text.now in
    IfOk-weaker c.plain_clusters.result _ _
    (λ found is. ap glyphs_in (is ∙ ap (plain_clusters 0) same ∙ sym (plain_by_test c.args.text.now test))
    ∙ whole items (plain_utf8 c.args.text.now test))
    c.plain_clusters.ensures

pub returns-clause-clusters : goal.returns-clause-clusters
returns-clause-clusters c =
    let shown = c.as_str.ensures.value ∙ c.in_ok-display.ensures.text in
    let places = c.deref.ensures.value ∙ c.in_ok-display.ensures.places in
    IfOk-weaker c.cut_display.result _ _
    (λ found is. is ∙ cut_is c.args.text.now _ _ _ c.bytes-bytes.ensures.bytes shown places c.as_str.utf8)
    c.cut_display.ensures

pub returns-clause-narrow : goal.returns-clause-narrow
returns-clause-narrow c =
    let shown = c.as_str.ensures.value ∙ c.in_ok-display.ensures.text in
    let places = c.deref.ensures.value ∙ c.in_ok-display.ensures.places in
    let P : List Cluster → Type 0 = λ l. All (λ cluster. cluster.cells ≤ 2) l in
    IfOk-weaker c.cut_display.result _ _
    (λ found is. subst P
    (sym (is ∙ cut_is c.args.text.now _ _ _ c.bytes-bytes.ensures.bytes shown places c.as_str.utf8))
    (narrow (items_of c.args.text.now)))
    c.cut_display.ensures

pub returns-clause-whole : goal.returns-clause-whole
returns-clause-whole c =
    let shown = c.as_str.ensures.value ∙ c.in_ok-display.ensures.text in
    let places = c.deref.ensures.value ∙ c.in_ok-display.ensures.places in
    let same = c.bytes-bytes.ensures.bytes in
    let items = items_of c.args.text.now in
    let utf8 = subst IsUtf8 (shown ∙ ap (λ b. display_text (items_of b)) same) c.as_str.utf8 in
    IfOk-weaker c.cut_display.result _ _
    (λ found is. ap glyphs_in (is ∙ cut_is c.args.text.now _ _ _ same shown places c.as_str.utf8) ∙ whole items utf8)
    c.cut_display.ensures
