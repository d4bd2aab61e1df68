pub mod Tops
