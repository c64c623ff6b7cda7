-- What the primary levels do with a block: contracts of arrays name it from here.
pub use Rattle.ddf_primary.specs.Needs.{is_on_every, keeps_copies, keeps_parity}
