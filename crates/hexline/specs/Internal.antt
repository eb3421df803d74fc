-- Definitions that only the contracts of functions that are not public cite: no promise rests on them.
pub mod Accept
pub mod Contents
