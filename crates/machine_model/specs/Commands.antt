-- What an outstanding command is for.
pub use Rattle.machine_model.specs.Work.{Work}
pub use Rattle.machine_model.specs.declared.words.Work.TheVariants.{Io, Management}
