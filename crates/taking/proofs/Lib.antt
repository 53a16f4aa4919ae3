pub mod Serving
