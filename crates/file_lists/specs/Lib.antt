pub mod FileList
