pub mod GoneTo
