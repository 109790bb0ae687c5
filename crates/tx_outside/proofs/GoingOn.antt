-- What is seen of a source, a sink and a store through several calls.
use Rattle.std.proofs.Common.{refl, ◌∙◌}
use Rattle.tx_outside.specs.Outside.{SinkGoesOn, SinkSeen, SourceGoesOn, SourceSeen, StoreGoesOn, StoreSeen}
use Rattle.tx_outside.proofs.Counting.{never_falls_refl, never_falls_then}

-- nothing happened
pub source_goes_on_refl : (a : SourceSeen) → SourceGoesOn a a
source_goes_on_refl a = record { known = refl; faults = never_falls_refl a.faults }

pub sink_goes_on_refl : (a : SinkSeen) → SinkGoesOn a a
sink_goes_on_refl a = record { known = refl; faults = never_falls_refl a.faults }

pub store_goes_on_refl : (a : StoreSeen) → StoreGoesOn a a
store_goes_on_refl a =
    record {
      known = refl;
      faults = never_falls_refl a.faults;
      misses = never_falls_refl a.misses;
      longs = never_falls_refl a.longs;
    }

-- one call after another
pub source_goes_on_then : (a b c : SourceSeen) → SourceGoesOn a b → SourceGoesOn b c → SourceGoesOn a c
source_goes_on_then a b c first second =
    record {
      known = second.known ∙ first.known;
      faults = never_falls_then a.faults b.faults c.faults first.faults second.faults;
    }

pub sink_goes_on_then : (a b c : SinkSeen) → SinkGoesOn a b → SinkGoesOn b c → SinkGoesOn a c
sink_goes_on_then a b c first second =
    record {
      known = second.known ∙ first.known;
      faults = never_falls_then a.faults b.faults c.faults first.faults second.faults;
    }

pub store_goes_on_then : (a b c : StoreSeen) → StoreGoesOn a b → StoreGoesOn b c → StoreGoesOn a c
store_goes_on_then a b c first second =
    record {
      known = second.known ∙ first.known;
      faults = never_falls_then a.faults b.faults c.faults first.faults second.faults;
      misses = never_falls_then a.misses b.misses c.misses first.misses second.misses;
      longs = never_falls_then a.longs b.longs c.longs first.longs second.longs;
    }
