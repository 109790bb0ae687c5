mod Walks
mod Runs
mod Flatness
pub mod Below
mod FlatLoops
mod RowsShown
mod Columns
mod Documents
mod Planning
mod ByRule
mod Texts
mod Pairs
mod Ending
mod Wording
mod Narrowing
mod PlanViews
