pub mod ToldBytes
