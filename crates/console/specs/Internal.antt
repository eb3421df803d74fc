-- Definitions that only the contracts of functions that are not public cite: no promise rests on them.
pub mod Numbers
pub mod Place
