-- The lemmas of a rebuild that is made ready and carried.
mod Rotations
pub mod Lending
mod StrideSums
mod AskSums
mod DrawLaws
mod CrewLaws
mod HireLaws
mod GatherLaws
mod PlaceLaws
mod ReplyPlaces
mod WorkLaws
mod DeskLaws
mod FinalLaws
mod LawfulLaws
mod CarryLaws
pub mod ReplyLaws
