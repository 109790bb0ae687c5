use Rattle.std.proofs.Common.{arith, ℕ, ◌≤◌, ◌<◌, ◌∷◌, ◌++◌, get_or, length, ◌≡◌, sym, ap, subst, ◌∙◌}
use Rattle.std.specs.Prelude.{codes, decimal}
use Rattle.std.specs.List.{AllByRecursion}
use Rattle.std.proofs.lemmas.List.Elements.{All-from_get_or, recursion_from_All}
use Rattle.tx_tree.specs.PathSpelling.{path_text}
use Rattle.tx_mod.specs.declared.mods.Mod.TheVariants.{Join}
use Rattle.tx_cmd.specs.declared.command.Command.TheVariants.{Change}
use Rattle.tx_telling.specs.Lines.{IsScriptLine}
use Rattle.tx_telling.proofs.Told.{join_at}
use Rattle.tx_telling.proofs.changing.join_line.Goals as goal

pub returns : goal.returns
returns c =
    let path = c.args.path.now in
    let child = c.args.child in
    let each : (i : ℕ) → i < length path → get_or path i 0 ≤ 4294967295 = λ i lt. grind arith in
    let fit : AllByRecursion (λ n. n ≤ 4294967295) path =
    recursion_from_All (λ n. n ≤ 4294967295) path (All-from_get_or (λ n. n ≤ 4294967295) path 0 each) in
    let few : length path ≤ 400 = omega (arith, ap length c.steps-numbers.ensures) in
    let spelled = c.path_law.ensures.path path few fit in
    let is : c.into_bytes.result.items ≡ codes "join " ++ (path_text path ++ 32 ∷ decimal child) =
    ap (λ v. v.items) c.into_bytes.ensures.value ∙ c.in_ok-format.ensures.ok in
    subst (λ line. IsScriptLine line (Change (Join path child))) (sym is)
    (join_at (path_text path) path child spelled (omega arith))
