mod Blanks
mod CodeDigits
mod EachByte
mod EightDigits
mod FewDigits
mod FiveDigits
mod FourDigits
pub mod lemmas
