pub mod Goes
