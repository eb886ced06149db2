pub mod CheckSteps
pub mod Total
pub mod OpenJudges
