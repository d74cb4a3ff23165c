-- Words of the code's own clauses; no other crate cites them.
pub mod AtLine
pub mod Ranking
pub mod Drawn
pub mod Passing
