pub mod CallSizes
pub mod Answering
pub mod JudgedMore
pub mod Accounts
pub mod FullBooks
pub mod lemmas
pub mod JobSteps
