-- What the contracts of the answer given say.
pub mod Left
