mod OneByOne
pub mod lemmas
