use Rattle.std.proofs.Common.{◌∙◌, ap}
use Rattle.std.specs.Str.{bytes_eq}
use Rattle.indexmap.specs.IndexMap.{insert_all}
use Rattle.tx_env.proofs.Listing.{all_inserted}
use Rattle.tx_env.proofs.pairs.Pairs.grow.Goals as goal

pub returns : goal.returns
returns c =
    let pairs = c.self.inside.map.entries in
    c.in_ok-append.ensures.entries ∙ ap (λ ps. insert_all bytes_eq ps pairs) c.in_ok-map.ensures.empty
    ∙ all_inserted pairs c.len.ensures.unique ∙ c.self.view_is
