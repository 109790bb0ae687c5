pub mod UnfailingRuns
