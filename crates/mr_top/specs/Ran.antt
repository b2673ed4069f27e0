-- What is known of a run.
pub use Rattle.mr_steps.specs.Ran.{Ran, Wrote}
