-- What contracts see of a source, a sink and a store at one moment, and what holds through any calls.
use Rattle.std.specs.Prelude.{ℕ, List, Option}
use Rattle.tx_outside.specs.Counts.{NeverFalls, Rose}
use Rattle.tx_outside.specs.Files.{Files}
use Rattle.tx_outside.specs.Known.{StaysKnown}

-- a source: the bytes that are still to come, where it reports them, and how often it has failed
pub record SourceSeen : Type 0 where
  pub left : Option (List ℕ)
  pub faults : ℕ

-- a sink: the bytes that were written, where it reports them, and how often it has failed
pub record SinkSeen : Type 0 where
  pub written : Option (List ℕ)
  pub faults : ℕ

-- a store: each file, where it reports them; how often it has failed, how often a file that was asked for wasn't there,
-- and how often one was too long
pub record StoreSeen : Type 0 where
  pub files : Option Files
  pub faults : ℕ
  pub misses : ℕ
  pub longs : ℕ

-- Through any calls known contents remain known, and no count falls.
pub record SourceGoesOn (old new : SourceSeen) : Type 0 where
  pub known : StaysKnown old.left new.left
  pub faults : NeverFalls old.faults new.faults

pub record SinkGoesOn (old new : SinkSeen) : Type 0 where
  pub known : StaysKnown old.written new.written
  pub faults : NeverFalls old.faults new.faults

pub record StoreGoesOn (old new : StoreSeen) : Type 0 where
  pub known : StaysKnown old.files new.files
  pub faults : NeverFalls old.faults new.faults
  pub misses : NeverFalls old.misses new.misses
  pub longs : NeverFalls old.longs new.longs

-- no call had a fault that is counted
pub record StoreIsFaultless (old new : StoreSeen) : Type 0 where
  pub no_faults : ¬ Rose old.faults new.faults
  pub no_misses : ¬ Rose old.misses new.misses
  pub no_longs : ¬ Rose old.longs new.longs
